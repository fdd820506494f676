-- What an accepted pack hands back: no order has fewer nodes than its own, of those with as many none's walks ask fewer flags, and of those that ask as many
-- none stands before it in the dictionary.
-- Assumes nothing.
use mathlib.Core.Path.{◌≡◌, refl, sym, ◌∙◌}
use mathlib.Core.Bool.{true}
use mathlib.Core.List.{List, ◌∷◌}
use Prim.Native.Nat.{ℕ, ◌≤◌}
use native.Mathlib.Omega.{arith}
use borrow.Author.Tests.{ltb-false, not-false}
use lib.ListN.{length}
use Rattle.rule.specs.Level.{size, asked_total}
use Rattle.rule.specs.Order.{places, flags, fit_order, in_places, packed}
use Rattle.rule.specs.Walk.{asked_in_all}
use Rattle.rule.specs.Reduced.{DrawnAs}
use Rattle.rule.specs.Refusals.{refusal, pack_rows}
use Rattle.rule.specs.Reply.{Reply}
use Rattle.rule.specs.Calls.{Pack}
use Rattle.rule.specs.Demands.{Fit, Gives, PackedWell, PackedOrder}
use Rattle.theory.proofs.Sets.{Order}
use Rattle.theory.proofs.Orders.{fit_order_is, packed_is, packed_flags}
use Rattle.theory.proofs.Refused.{passed}
use Rattle.demands.proofs.Stands.{accepted_reply, packed-drawing, packs}
use Rattle.demands.proofs.Counts.{counts, asked_total_lem}

module _ {n nodes root : ℕ} {t order c w d x : List ℕ} {r : Reply} (b : Pack n t c w r d x) (g : Gives r (nodes ∷ root ∷ order)) where
  nodes_are : nodes ≡ size (packed n t) t
  nodes_are = let (_, v) = accepted_reply (refusal (pack_rows n t c w)) b.answer g in cc

  few : n ≤ 10
  few =
      let (z, _) = accepted_reply (refusal (pack_rows n t c w)) b.answer g in
      ltb-false 10 n (passed (pack_rows n t c w) refl z).0

  order_is : flags n order ≡ packed n t
  order_is =
      let (_, v) = accepted_reply (refusal (pack_rows n t c w)) b.answer g in
      let e : order ≡ in_places (packed n t) = cc in
      rw e (packed_flags n t few)

  module _ (other : List ℕ) (l : length other ≡ places) (o : fit_order n other ≡ true) where
    other_fit : Fit n other t
    other_fit =
        let (z, _) = accepted_reply (refusal (pack_rows n t c w)) b.answer g in
        let (_, (rows, (bits, _))) = passed (pack_rows n t c w) refl z in
        record { few = few; kept_in = l; order_fits = o; rows = not-false _ rows; bits = not-false _ bits }

    other_order : Order n (flags n other)
    other_order = fit_order_is n other o

    -- an order that draws the table with as many nodes
    module _ {cells : List ℕ} {top : ℕ} (y : DrawnAs n other t cells nodes top) where
      as_many : size (flags n other) t ≡ size (packed n t) t
      as_many = sym (counts n other t other_fit cells nodes top y) ∙ nodes_are

      asked : asked_in_all n cells top ≡ asked_total (flags n other) t
      asked = asked_total_lem n other t other_fit cells nodes top y

  own_asked : asked_in_all n d root ≡ asked_total (packed n t) t
  own_asked =
      rw order_is at
      (asked_total_lem n order t (packed-drawing n nodes root t order c w d x r b g).fit d nodes root (packs n nodes root t order c w d x r b g).drawn)

  pub packed_well : PackedWell n t order nodes root d
  packed_well =
      let k = packed_is n t in
      record {
        stands = packs n nodes root t order c w d x r b g;
        fewest = λ other cells used top l o y.
            omega (arith, nodes_are, counts n other t (other_fit other l o) cells used top y, k.fewest (flags n other) (other_order other l o));
        shortest = λ other cells top l o y.
            omega (arith, own_asked, asked other l o y, k.least (flags n other) (other_order other l o) (as_many other l o y));
        first = λ other cells top l o y e.
            rw order_is (k.first (flags n other) (other_order other l o) (as_many other l o y) (sym (asked other l o y) ∙ e ∙ own_asked));
      }

pub packed_order : PackedOrder
packed_order n nodes root t order c w d x r b g = packed_well b g
