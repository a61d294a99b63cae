-- `emission_code::patch_u16_value_at` meets its contract.
use Rattle.model.specs.Emission.{u16}
use Rattle.layout.specs.Links.{code_lent, bytes_lent}
use Rattle.laws_programs.proofs.Emitting.{patch_in_main, patch_in_other, patch_19, patch_25, patch_23, patched_main, patched_other}
use borrow.Author.Rules.{rules}
use Rattle.emission_code.proofs.Operands.{two_bytes}
use Rattle.emission_code.proofs.patch_u16_value_at.Goals as goal

pub returns-then-not-ok : goal.returns-then-not-ok
returns-then-not-ok c = λ rest. patch_19 _ _ _ _ _ _ (c.patch_order-ok.ensures rest) (search rules)

pub returns-then-running : goal.returns-then-running
returns-then-running c = λ rest. patch_25 _ _ _ _ _ _ (c.patch_order-ok.ensures rest) (search rules) c.if-running.true

pub returns-then-size-at : goal.returns-then-size-at
unfolding code_lent bytes_lent
returns-then-size-at c =
    λ rest. rw (← c.from-at.ensures) (patch_23 _ _ _ _ _ _ (c.patch_order-ok.ensures rest) (search rules) c.if-running.false _ _ _ c.second-word.ensures
    c.start_of-start.ensures.0 c.size_of-size.ensures.0 c.if-size-at.true)

pub put_bytes-requires : goal.put_bytes-requires
put_bytes-requires c =
    rw c.to_le_bytes-bytes.ensures (patch_in_main _ _ _ _ _ c.patch_order-ok.ensures (search rules) _ _ _ _
    c.second-word.ensures c.start_of-start.ensures.0 c.size_of-size.ensures.0 c.if-size-at.false
    c.if-current-eq0.true)

pub returns-then-current-eq0 : goal.returns-then-current-eq0
unfolding code_lent bytes_lent u16
returns-then-current-eq0 c =
    λ rest. rw (← c.from-at.ensures) (patched_main _ _ _ _ _ _ (c.patch_order-ok.ensures rest) (search rules) c.if-running.false _ _ _ c.second-word.ensures
    c.start_of-start.ensures.0 c.size_of-size.ensures.0 c.if-size-at.false _ c.if-current-eq0.true
    (rw (two_bytes _ _ (search rules) c.to_le_bytes-bytes.ensures) at c.put_bytes.ensures))

pub put_bytes-requires-2 : goal.put_bytes-requires-2
put_bytes-requires-2 c =
    rw c.to_le_bytes-bytes.ensures (patch_in_other _ _ _ _ _ c.patch_order-ok.ensures (search rules) _ _ _ _
    c.second-word.ensures c.start_of-start.ensures.0 c.size_of-size.ensures.0 c.if-size-at.false
    c.if-current-eq0.false)

pub returns : goal.returns
unfolding code_lent bytes_lent u16
returns c =
    λ rest. rw (← c.from-at.ensures) (patched_other _ _ _ _ _ _ (c.patch_order-ok.ensures rest) (search rules) c.if-running.false _ _ _ c.second-word.ensures
    c.start_of-start.ensures.0 c.size_of-size.ensures.0 c.if-size-at.false _ c.if-current-eq0.false
    (rw (two_bytes _ _ (search rules) c.to_le_bytes-bytes.ensures) at c.put_bytes-2.ensures))
