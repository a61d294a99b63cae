-- `emission_structs::add_struct_info` meets its contract.
use Rattle.layout.specs.Links.{structs_lent}
use Rattle.laws_programs.proofs.Adding.{structs_ordered, new_placed, struct_19, struct_25, struct_known, struct_new}
use borrow.Author.Rules.{rules}
use Rattle.emission_structs.proofs.add_struct_info.Goals as goal

pub returns-then-not-ok : goal.returns-then-not-ok
returns-then-not-ok c = λ rest. struct_19 _ _ _ _ _ (c.struct_order-ok.ensures rest) (search rules)

pub returns-then-running : goal.returns-then-running
returns-then-running c = λ rest. struct_25 _ _ _ _ _ (c.struct_order-ok.ensures rest) (search rules) c.if-running.true

pub returns-then-stands : goal.returns-then-stands
unfolding structs_lent
returns-then-stands c =
    λ rest. struct_known _ _ _ _ _ (c.struct_order-ok.ensures rest) (search rules) c.if-running.false
    (structs_ordered _ _ _ _ c.struct_order-ok.ensures (search rules)) _ c.spot-at.ensures _
    c.stands.ensures c.if-stands.true _ _ c.second.ensures c.index.ensures

pub add_struct-requires : goal.add_struct-requires
add_struct-requires c =
    new_placed _ _ _ _ _ (structs_ordered _ _ _ _ c.struct_order-ok.ensures (search rules))
    c.spot-at.ensures

pub returns : goal.returns
unfolding structs_lent
returns c =
    λ rest. struct_new _ _ _ _ _ (c.struct_order-ok.ensures rest) (search rules) c.if-running.false
    (structs_ordered _ _ _ _ c.struct_order-ok.ensures (search rules)) _ c.spot-at.ensures _
    c.stands.ensures c.if-stands.false _ _ (c.add_struct.ensures rest)
