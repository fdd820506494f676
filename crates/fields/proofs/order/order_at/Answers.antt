-- `fields::order::order_at` meets its contract: the bytes are copied to the front of ten places that are 0.
-- Assumes nothing.
use mathlib.Core.Path.{◌≡◌, ◌∙◌, ap}
use mathlib.Core.List.{List, ◌++◌}
use Prim.Native.Nat.{ℕ, ◌+◌, ◌-◌}
use native.Mathlib.Omega.{arith}
use lib.ListN.{take, drop, length-drop}
use lib.Seq.{length-take-le}
use Rattle.rule.proofs.Zeros.{zeros}
use Rattle.fields.proofs.Places.{placed}
use Rattle.fields.proofs.order.order_at.Goals as goal

pub returns : goal.returns
returns c =
    let a = c.args in
    let bytes = drop a.at a.file.now in
    let own : a.at + a.n - a.at ≡ a.n = omega arith in
    ap (λ (l : List ℕ). l ++ drop a.n (zeros 10)) (c.copy_from_slice.ensures.after ∙ ap (λ (k : ℕ). take k bytes) own)
    ∙ placed (take a.n bytes) a.n (length-take-le a.n bytes (omega (arith, length-drop a.at a.file.now))) c.requires.0
