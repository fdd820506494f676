-- A file's records laid in cells, one behind the other.
-- Assumes nothing.
use mathlib.Core.Path.{◌≡◌, sym, ap, ◌∙◌}
use mathlib.Core.List.{List, map}
use Prim.Native.Nat.{ℕ, ◌+◌, ◌*◌, ◌<◌}
use lib.ListN.{get_or}
use Rattle.rule.specs.Bits.{below}
use Rattle.rule.specs.Cells.{room, laid_in}
use Rattle.rule.specs.Files.{record_size, record_at, two_at}
use Rattle.theory.proofs.Bits.{below_more, length-below}
use Rattle.cells.specs.Record.{put_record}
use Rattle.cells.proofs.Laid.{laid_more}

-- one record more of a file
pub laid_next : (c file : List ℕ) (start k : ℕ) {e d : List ℕ} {low high : ℕ}
    → d ≡ put_record e k (get_or file (start + k * record_size) 0) low high
    → e ≡ laid_in c (map (record_at file start) (below k))
    → low ≡ two_at file (start + k * record_size + 1)
    → high ≡ two_at file (start + k * record_size + 3)
    → k < room c
    → d ≡ laid_in c (map (record_at file start) (below (k + 1)))
laid_next c file start k p q f g h =
    p
    ∙ rw (q, f, g)
    (laid_more c (map (record_at file start) (below k)) (record_at file start k) k (length-below (record_at file start) k) h
    ∙ ap (laid_in c) (sym (below_more (record_at file start) k)))
