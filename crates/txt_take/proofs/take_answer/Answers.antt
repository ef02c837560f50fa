-- `txt_take::take_answer` meets its contract: a law of the answer at each return.
use mathlib.Core.Path.{◌≡◌, sym, ◌∙◌}
use mathlib.Core.Bool.{true}
use native.Mathlib.Omega.{arith}
use Rattle.txt.specs.Answers.{records, answer_of, texts, texts_read, reply}
use Rattle.txt.specs.declared.Reply.{Reply}
use Rattle.txt_read.specs.code.Steps.{is_there}
use Rattle.txt_read.proofs.AnswerLaws.{refuses_answer, scratch_short, room_for_texts, taken_records, none_reply, bare_short, bare_reply}
use Rattle.txt_take.proofs.take_answer.Goals as goal
use Rattle.txt_take.proofs.take_answer.Goals.{Else-not-is_readable}

readable : (c : Else-not-is_readable) → is_there (texts_read c.args.bytes.now) ≡ true
readable c = sym c.is_readable.ensures ∙ c.if-not-is_readable.false

pub returns-then-scratch-lt-SCRATCH : goal.returns-then-scratch-lt-SCRATCH
returns-then-scratch-lt-SCRATCH c =
    let s = c.args in
    bare_short s.status s.bytes.now s.scratch.now c.in_default.not-Records (omega arith) c.refuse_answer.result c.refuse_answer.ensures

pub returns-in_default-status : goal.returns-in_default-status
returns-in_default-status c =
    let s = c.args in
    bare_reply s.status s.bytes.now s.scratch.now c.in_default.not-Records (omega arith) Reply.NoRecord
    (none_reply s.status s.bytes.now c.in_default.not-Records c.in_default-status.not-Error)

pub returns-in_default : goal.returns-in_default
unfolding answer_of reply
returns-in_default c =
    let s = c.args in
    bare_reply s.status s.bytes.now s.scratch.now c.in_default.not-Records (omega arith) Reply.Error (rw c.in-Error.is)

pub returns-then-not-is_readable : goal.returns-then-not-is_readable
unfolding answer_of texts
returns-then-not-is_readable c =
    let s = c.args in
    let unread = sym c.is_readable.ensures ∙ c.if-not-is_readable.true in
    rw c.in-Records.is (refuses_answer (records s.bytes.now) s.scratch.now c.refuse_answer-then-not-is_readable.result unread c.refuse_answer-then-not-is_readable.ensures)

pub returns-then-scratch-lt-SCRATCH-2 : goal.returns-then-scratch-lt-SCRATCH-2
unfolding answer_of
returns-then-scratch-lt-SCRATCH-2 c =
    let s = c.args in
    rw c.in-Records.is (scratch_short s.bytes.now s.scratch.now (readable (goal.at.returns-then-scratch-lt-SCRATCH-2 c).Else-not-is_readable) (omega arith) c.refuse_answer-then-scratch-lt-SCRATCH-2.result c.refuse_answer-then-scratch-lt-SCRATCH-2.ensures)

pub take_records-requires : goal.take_records-requires
take_records-requires c =
    let s = c.args in
    room_for_texts s.bytes.now s.scratch.now (readable (goal.at.take_records-requires c).Else-not-is_readable) (omega arith)

pub returns : goal.returns
unfolding answer_of
returns c =
    let s = c.args in
    let f = c.take_records in
    rw c.in-Records.is
    (taken_records s.bytes.now s.scratch.now (readable (goal.at.returns c).Else-not-is_readable) (omega arith) f.result f.new.scratch f.ensures c.reply_of.result c.reply_of.ensures)
