-- `emission_constants::add_constant` meets its contract.
use mathlib.Core.Path.{refl}
use Rattle.layout.specs.Links.{constants_lent}
use Rattle.laws_programs.proofs.Adding.{pair_fits, constant_19, constant_25, constant_22, constant_21, scalar_in, boolean_in, string_in, reference_in}
use borrow.Author.Rules.{rules}
use Rattle.emission_constants.proofs.add_constant.Goals as goal

pub returns-then-not-ok : goal.returns-then-not-ok
returns-then-not-ok c = λ rest. constant_19 _ _ _ _ _ _ (c.constant_order-ok.ensures rest) (search rules)

pub returns-then-running : goal.returns-then-running
returns-then-running c = λ rest. constant_25 _ _ _ _ _ _ (c.constant_order-ok.ensures rest) (search rules) c.if-running.true

pub returns-then-n-ge-CONSTANT_LIMIT : goal.returns-then-n-ge-CONSTANT_LIMIT
returns-then-n-ge-CONSTANT_LIMIT c = λ rest. constant_22 _ _ _ _ _ _ (c.constant_order-ok.ensures rest) (search rules) c.if-running.false c.if-n-ge-CONSTANT_LIMIT.true

pub returns-then-room-n : goal.returns-then-room-n
unfolding constants_lent
returns-then-room-n c =
    λ rest. constant_21 _ _ _ _ _ _ (c.constant_order-ok.ensures rest) (search rules) c.if-running.false
    c.if-n-ge-CONSTANT_LIMIT.false _ (c.room.ensures _ refl) c.if-room-n.true

pub plain-requires : goal.plain-requires
plain-requires c = pair_fits _ _ c.args.constants.now (c.room.ensures _ refl) c.if-room-n.false

pub plain-requires-in-Boolean : goal.plain-requires-in-Boolean
plain-requires-in-Boolean c = pair_fits _ _ c.args.constants.now (c.room.ensures _ refl) c.if-room-n.false

pub text_constant-requires : goal.text_constant-requires
text_constant-requires c = pair_fits _ _ c.args.constants.now (c.room.ensures _ refl) c.if-room-n.false

pub text_constant-requires-in-FunctionReference : goal.text_constant-requires-in-FunctionReference
text_constant-requires-in-FunctionReference c = pair_fits _ _ c.args.constants.now (c.room.ensures _ refl) c.if-room-n.false

pub returns-in-Scalar : goal.returns-in-Scalar
unfolding constants_lent
returns-in-Scalar c =
    λ rest. scalar_in _ _ _ _ _ _ (c.constant_order-ok.ensures rest) (search rules) c.if-running.false
    c.if-n-ge-CONSTANT_LIMIT.false _ (c.room.ensures _ refl) c.if-room-n.false _ _ _ c.in-Scalar.is
    (c.plain.ensures rest _)

pub returns-in-Boolean : goal.returns-in-Boolean
unfolding constants_lent
returns-in-Boolean c =
    λ rest. boolean_in _ _ _ _ _ _ (c.constant_order-ok.ensures rest) (search rules) c.if-running.false
    c.if-n-ge-CONSTANT_LIMIT.false _ (c.room.ensures _ refl) c.if-room-n.false _ _ _ _ c.in-Boolean.is c.from.ensures
    (c.plain-in-Boolean.ensures rest _)

pub returns-in-String : goal.returns-in-String
unfolding constants_lent
returns-in-String c =
    λ rest. string_in _ _ _ _ _ _ (c.constant_order-ok.ensures rest) (search rules) c.if-running.false
    c.if-n-ge-CONSTANT_LIMIT.false _ (c.room.ensures _ refl) c.if-room-n.false _ _ c.in-String.is
    (c.text_constant.ensures rest)

pub returns-in-FunctionReference : goal.returns-in-FunctionReference
unfolding constants_lent
returns-in-FunctionReference c =
    λ rest. reference_in _ _ _ _ _ _ (c.constant_order-ok.ensures rest) (search rules) c.if-running.false
    c.if-n-ge-CONSTANT_LIMIT.false _ (c.room.ensures _ refl) c.if-room-n.false _ _ c.in-FunctionReference.is
    (c.text_constant-in-FunctionReference.ensures rest)
