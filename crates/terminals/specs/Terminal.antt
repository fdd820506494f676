-- The terminal cases of a join: two nodes whose joined rule is at once an end node or one of the two.
-- Assumes nothing.
use Rattle.std.specs.Prelude.{cond, ℕ, eqb, ltb, Option, Some, None}
use Rattle.rule.specs.Cells.{is_end}
use Rattle.rule.specs.Results.{digit}

-- what a node's rule becomes where a digit stands for its no and one for its yes: for 1 and 0 its opposite, an end node where they are one, else itself
unfoldable pub by_digits : ℕ → ℕ → ℕ → Option ℕ
by_digits for-no for-yes m = cond (ltb for-yes for-no) None (cond (eqb for-no for-yes) (Some for-no) (Some m))

-- two end nodes; an end node beside a record; a record beside itself
unfoldable pub terminal : ℕ → ℕ → ℕ → Option ℕ
terminal code f g =
    cond (is_end f) (cond (is_end g) (Some (digit code f g)) (by_digits (digit code f 0) (digit code f 1) g))
    (cond (is_end g) (by_digits (digit code 0 g) (digit code 1 g) f)
    (cond (eqb f g) (by_digits (digit code 0 0) (digit code 1 1) f) None))
