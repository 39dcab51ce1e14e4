use Rattle.std.proofs.Common.{◌≡◌, ◌++◌, drop}
use Rattle.command_line.specs.Commands.{texts_of}
use Rattle.hosted.specs.Arguments.{own_words}
use Rattle.hosted.proofs.arguments.words_of.Given as goal

abbrev pub invariant-loop-word : goal.invariant-loop-word
invariant-loop-word l = texts_of l.words.items ++ texts_of (drop l.word-index l.rest) ≡ own_words l.at ++ texts_of l.rest
