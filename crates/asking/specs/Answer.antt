-- An answer as the definitions of crate rule have it, and its kind.
-- Assumes nothing.
use Rattle.rule.specs.Reply.{Reply}
use Rattle.rule.specs.Answers.{done_reply, made_reply, said_reply, number_reply}
use Rattle.tallying.specs.Tally.{tallied_reply}
use Rattle.asking.specs.declared.answers.Answer.{Answer}
use Rattle.asking.specs.declared.answers.Answer.TheVariants as the-answer
use Rattle.asking.specs.declared.answers.Reached.{Reached}

-- an answer as the paper counts it
abbrev pub answer_reply : Answer → Reply
answer_reply (the-answer.Done a) = done_reply a
answer_reply (the-answer.Made a) = made_reply a
answer_reply (the-answer.Said a) = said_reply a
answer_reply (the-answer.Sought a) = number_reply a
answer_reply (the-answer.Tallied a) = tallied_reply a

abbrev pub reached_reply : Reached → Reply
reached_reply r = answer_reply r.answer

-- the kinds of answer: none but that the call is done, a rule's node, what a rule says of a row, a row that is sought, the tally of a log
pub data Kind : Type 0 where
  done_kind made_kind said_kind sought_kind tallied_kind : Kind

abbrev pub answer_kind : Answer → Kind
answer_kind (the-answer.Done a) = done_kind
answer_kind (the-answer.Made a) = made_kind
answer_kind (the-answer.Said a) = said_kind
answer_kind (the-answer.Sought a) = sought_kind
answer_kind (the-answer.Tallied a) = tallied_kind
