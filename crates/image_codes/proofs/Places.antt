-- A function at a place: its code, and what follows it.
use mathlib.Core.Path.{◌≡◌, sym, ap, ◌∙◌}
use mathlib.Core.Bool.{Bool}
use mathlib.Core.List.{List}
use Prim.Native.Nat.{ℕ, ◌+◌, ◌-◌, ◌≤◌}
use native.Mathlib.Omega.{arith}
use lib.ListN.{length, drop}
use Rattle.model.specs.Numbers.{got, bad, and_then}
use Rattle.model.specs.Programs.{Function}
use Rattle.model.specs.Images.{read_function}
use Rattle.image_judge.specs.declared.Head.{Head}
use Rattle.image_judge.specs.Links.{Bad, HeadPost, RunsPost, function_of}
use Rattle.image_judge.proofs.Functions.{head_is, head_not, runs_is, runs_not}
use Rattle.number.proofs.Codes.{never}
use Rattle.laws_images.proofs.Codecs.{got_value, got_rest}
use Rattle.image_codes.specs.Links.{CodePost}
use Rattle.std.specs.Prelude.{Err, Ok, Result}
use Rattle.image_judge.specs.declared.Broken.{Broken}
use Rattle.image_judge.specs.declared.Broken.TheVariants.{At}

module _ (first : Bool) (s : List ℕ) (at : ℕ) (inside : at ≤ length s) where
  -- what breaks a rule is no function
  pub no_function : {k : ℕ} → Bad (read_function first) s at k → CodePost first s at (record { from = at; size = 0; next = at })
  no_function wrong = record {
    inside = omega arith;
    ahead = omega arith;
    within = inside;
    reads = λ f rest e. absurd (never (sym wrong.means ∙ e));
  }

  module _ (r : Result Head Broken) (head : HeadPost first s at r) where
    pub no_head : {b : Broken} → r ≡ Err b → CodePost first s at (record { from = at; size = 0; next = at })
    no_head {b = At k} e = no_function (head_not first s at r head k e)

    module _ (x : Head) (e : r ≡ Ok x) (y : Result ℕ Broken) (runs : RunsPost s (x.code + x.size) x.size y) where
      pub no_runs : {b : Broken} → y ≡ Err b → CodePost first s at (record { from = at; size = 0; next = at })
      unfolding and_then
      no_runs {b = At k} f =
          let wrong = runs_not s (x.code + x.size) x.size y runs k f in
          let found = head_is first s at r head x e in
          record {
            inside = omega arith;
            ahead = omega arith;
            within = inside;
            reads = λ g rest z.
                let broken : read_function first (drop at s) ≡ bad (length s - k) = found.leads ∙ rw wrong.means in
                absurd (never (sym broken ∙ z));
          }

      pub function_found : {next : ℕ} → y ≡ Ok next → CodePost first s at (record { from = x.code; size = x.size; next = next })
      unfolding and_then function_of
      function_found {next} f =
          let good = runs_is s (x.code + x.size) x.size y runs next f in
          let found = head_is first s at r head x e in
          let near = found.room in
          let far = good.good.ahead in
          let read : read_function first (drop at s) ≡ got (function_of s x good.held) (drop next s) = found.leads ∙ rw good.good.means in
          record {
            inside = found.code;
            ahead = omega arith;
            within = good.good.within;
            reads = λ g rest z. record { code = ap (λ (q : Function). q.code) (got_value (sym read ∙ z)); next = got_rest (sym read ∙ z) };
          }
