-- The fields that the writer puts: what stands only where there is something, and the bytes of records, one behind the other.
-- Assumes nothing.
use mathlib.Core.Path.{◌≡◌, refl, sym, ap, ◌∙◌}
use mathlib.Core.List.{List, ◌++◌}
use Prim.Native.Nat.{ℕ, zero, suc, ◌+◌, ◌*◌, ◌≤◌}
use native.Mathlib.Omega.{arith}
use lib.ListN.{length}
use Rattle.rule.specs.Cells.{RecordValues, records_in}
use Rattle.rule.specs.Files.{record_size, in_bytes, if_some, record_bytes}
use Rattle.theory.proofs.Bits.{below_more, length-below}
use Rattle.theory.proofs.Flat.{flat_behind, flat_length}
use Rattle.runs.specs.Run.{Puts}
use Rattle.runs.proofs.Puts.{puts_more}
use Rattle.rule.specs.Cells.{record_in}

-- ---- what stands only where there is something

pub some_list : (k : ℕ) (l : List ℕ) → (k ≡ 0 → ⊥) → l ≡ if_some k l
some_list zero l d = absurd (d refl)
some_list (suc k) l d = refl

pub some_long : (k : ℕ) (l : List ℕ) → (k ≡ 0 → ⊥) → length (if_some k l) ≡ length l
some_long k l d = ap length (sym (some_list k l d))

-- ---- the bytes of records

pub length_bytes : (rs : List RecordValues) → length (record_bytes rs) ≡ length rs * record_size
length_bytes rs = flat_length in_bytes record_size rs (λ r m. refl)

pub length_records : (c : List ℕ) (k : ℕ) → length (record_bytes (records_in c k)) ≡ k * record_size
length_records c k = length_bytes (records_in c k) ∙ ap (λ (j : ℕ). j * record_size) (length-below (record_in c) k)

pub puts_record : (c : List ℕ) (k : ℕ) {b d e : List ℕ} {at m r : ℕ} → at + (k + 1) * record_size ≤ length b
    → Puts b at (record_bytes (records_in c k)) m d → Puts d m (in_bytes (record_in c k)) r e → Puts b at (record_bytes (records_in c (k + 1))) r e
puts_record c k h p q =
    let e : record_bytes (records_in c (k + 1)) ≡ record_bytes (records_in c k) ++ in_bytes (record_in c k) =
    ap record_bytes (below_more (record_in c) k) ∙ flat_behind in_bytes (records_in c k) (record_in c k) in
    rw e (puts_more (omega (arith, length_records c k)) p q)
