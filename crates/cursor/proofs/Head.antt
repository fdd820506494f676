-- What n comes to where it is read.
-- Assumes nothing.
use mathlib.Core.Path.{◌≡◌}
use mathlib.Core.List.{List}
use Prim.Native.Nat.{ℕ, ◌+◌, ◌≤◌, ◌<◌}
use native.Mathlib.Omega.{arith}
use borrow.Author.Tests.{le-ltb}
use lib.ListN.{length, get_or}
use Rattle.rule.specs.Order.{rising}
use Rattle.rule.specs.Files.{Reading, go, unless, read_flags}

module _ (file : List ℕ) (x : Reading) (h : x.at < length file) {n : ℕ} (e : n ≡ get_or file x.at 0) where
  pub flags_read : n ≤ 10 → {o : List ℕ} → o ≡ rising n
      → read_flags file x ≡ go (record { n = n; places = o; label = x.label; records = x.records; at = x.at + 1 })
  unfolding read_flags unless
  flags_read g f = rw (f, ← e, le-ltb (length file) (x.at + 1) (omega arith), le-ltb 10 n g)
