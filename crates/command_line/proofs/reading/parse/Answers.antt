use Rattle.std.proofs.Common.{rules}
use Rattle.clap.specs.Words.{app_of}
use Rattle.command_line.specs.Commands.{texts_of}
use Rattle.command_line.proofs.WordLemmas.{taken, refused_words}
use Rattle.command_line.proofs.reading.parse.Goals as goal

pub returns-in-Ok : goal.returns-in-Ok
returns-in-Ok c =
    taken (app_of c.args.program) (texts_of c.args.words.now) c.in-Ok.matches c.requires c.in-Ok.ensures.kinds c.in-Ok.ensures.matches

pub returns : goal.returns
returns c =
    refused_words (app_of c.args.program) (texts_of c.args.words.now) c.in-Err.e c.requires c.in-Err.ensures.kinds (λ h. search (rules, h))
