-- "Tabulate, walk and every refused call, open too, write nothing." (document 01, "The book beside the store"; of the queries, tabulate, walk and provoke, `enter_by` says it.)
-- Assumes nothing.
use mathlib.Core.Path.{◌≡◌, refl, ap}
use mathlib.Core.List.{List}
use Prim.Native.Nat.{ℕ}
use Rattle.rule.specs.Reply.{Reply, refused}
use Rattle.rule.specs.History.{Asked, open_call, constant_call, making_call, query_call, Book, enter_by}

pub refused_silent : (b : Book) (q : Asked) (r : Reply) {k : ℕ} {values : List ℕ} → r ≡ refused k values → enter_by b q r ≡ b
refused_silent b (open_call given) r e = ap (enter_by b (open_call given)) e
refused_silent b (constant_call v) r e = ap (enter_by b (constant_call v)) e
refused_silent b (making_call x) r e = ap (enter_by b (making_call x)) e
refused_silent b (query_call q) r e = refl
