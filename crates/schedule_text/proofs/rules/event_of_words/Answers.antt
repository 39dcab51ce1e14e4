use Rattle.std.proofs.Common.{refl}
use Rattle.schedule_text.proofs.rules.event_of_words.Goals as goal

pub returns-then-is_word : goal.returns-then-is_word
returns-then-is_word c = rw (c.cut.ensures, ← c.if-is_word.ensures) c.submit.ensures

pub returns-then-is_word-2 : goal.returns-then-is_word-2
returns-then-is_word-2 c =
    rw (
      c.cut.ensures,
      ← c.if-is_word.ensures,
      ← c.if-is_word-2.ensures,
      ← c.deliver.ensures,
    ) c.answer.ensures

pub returns-then-is_word-3 : goal.returns-then-is_word-3
returns-then-is_word-3 c =
    rw (
      c.cut.ensures,
      ← c.if-is_word.ensures,
      ← c.if-is_word-2.ensures,
      ← c.if-is_word-3.ensures,
      ← c.tick.ensures,
    ) c.answer-then-is_word-3.ensures

pub returns-then-is_word-4 : goal.returns-then-is_word-4
returns-then-is_word-4 c =
    rw (
      c.cut.ensures,
      ← c.if-is_word.ensures,
      ← c.if-is_word-2.ensures,
      ← c.if-is_word-3.ensures,
      ← c.if-is_word-4.ensures,
      ← c.install.ensures,
    ) c.answer-then-is_word-4.ensures

pub returns-then-is_word-5 : goal.returns-then-is_word-5
returns-then-is_word-5 c =
    rw (
      c.cut.ensures,
      ← c.if-is_word.ensures,
      ← c.if-is_word-2.ensures,
      ← c.if-is_word-3.ensures,
      ← c.if-is_word-4.ensures,
      ← c.if-is_word-5.ensures,
      ← c.crash.ensures,
    ) c.answer-then-is_word-5.ensures

pub returns-then-is_word-6 : goal.returns-then-is_word-6
returns-then-is_word-6 c =
    rw (
      c.cut.ensures,
      ← c.if-is_word.ensures,
      ← c.if-is_word-2.ensures,
      ← c.if-is_word-3.ensures,
      ← c.if-is_word-4.ensures,
      ← c.if-is_word-5.ensures,
      ← c.if-is_word-6.ensures,
    ) c.junk.ensures

pub returns-then-is_word-7 : goal.returns-then-is_word-7
returns-then-is_word-7 c =
    rw (
      c.cut.ensures,
      ← c.if-is_word.ensures,
      ← c.if-is_word-2.ensures,
      ← c.if-is_word-3.ensures,
      ← c.if-is_word-4.ensures,
      ← c.if-is_word-5.ensures,
      ← c.if-is_word-6.ensures,
      ← c.if-is_word-7.ensures,
    ) c.read.ensures

pub returns : goal.returns
returns c =
    rw (
      c.cut.ensures,
      ← c.if-is_word.ensures,
      ← c.if-is_word-2.ensures,
      ← c.if-is_word-3.ensures,
      ← c.if-is_word-4.ensures,
      ← c.if-is_word-5.ensures,
      ← c.if-is_word-6.ensures,
      ← c.if-is_word-7.ensures,
    ) refl
