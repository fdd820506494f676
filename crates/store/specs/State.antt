-- A store's state as the definitions of crate rule have it. (What its answers hand back is `done_reply`, `made_reply`, `said_reply` and `number_reply`
-- there, and `tallied_reply` in crate tallying.)
-- Assumes nothing.
use Rattle.rule.specs.Calls.{State}
use Rattle.store.specs.declared.state.Store.{Store}

abbrev pub state_of : Store → State
state_of s = record { n = s.n; places = s.order.places; used = s.used }
