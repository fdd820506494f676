-- What the program prints that plays a rig log through a table (document 02, request 9), in bytes.
-- Assumes nothing.
use mathlib.Core.List.{List, [], ◌++◌, flat_map}
use Rattle.std.proofs.Math.Option.{none}
use Rattle.std.specs.Prelude.{ℕ, ◌+◌, take}
use Rattle.rule.specs.Bits.{below}
use Rattle.rule.specs.Log.{snapshots, played_by, tally_of}
use Rattle.rule.specs.Refusals.{Row, refusal, log_rows}
use Rattle.rule.specs.Reply.{Reply, accepted, refused, reply}
use Rattle.rule.specs.Text.{decimal, line_end, read_line}
use Rattle.rule.specs.Listing.{rows_of, flags_of, line_rows, word_line}

-- "a table line as for the listing but up to ten flags": 1, 2 and 3 as there; then 16, and 9 for a row, since "the program gives none", no pass rule
abbrev pub rig_rows : List ℕ → List ℕ → List Row
rig_rows line log = line_rows line ++ log_rows (flags_of line) [] none log

-- a number alone on its line
abbrev pub number_line : ℕ → List ℕ
number_line x = decimal x ++ line_end

-- "It prints the tally's numbers one a line": three, and one for each of the n flags; "the program prints refusals as the listing does"
abbrev pub printed_tally : ℕ → Reply → List ℕ
printed_tally n (accepted values) = flat_map number_line (take (3 + n) values)
printed_tally n (refused k values) = word_line "refused" k

-- the tally of a table "drawn in the rising order", or why there is none: the line up to the first 0A, "then the log", all bytes behind it
abbrev pub rig_reply : List ℕ → List ℕ → Reply
rig_reply line log =
    reply (refusal (rig_rows line log)) (tally_of (flags_of line) (played_by (below (flags_of line)) (rows_of line) (snapshots log)))

-- all that the program prints, for what it finds on standard input
unfoldable pub rig_tally : List ℕ → List ℕ
rig_tally input = let line = (read_line input).0 in printed_tally (flags_of line) (rig_reply line (read_line input).1)
