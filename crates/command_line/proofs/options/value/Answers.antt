use Rattle.std.proofs.Common.{ap, sym, ◌∙◌, option_map}
use Rattle.clap.specs.Words.{found_of}
use Rattle.command_line.specs.Commands.{number_or}
use Rattle.command_line.proofs.FoundLemmas.{found}
use Rattle.command_line.proofs.options.value.Goals as goal

pub returns-in-Some-clause-value : goal.returns-in-Some-clause-value
returns-in-Some-clause-value c =
    let is = found (found_of c.args.matches.now) c.args.name.now c.get_str.result c.get_str.ensures in
    c.number.ensures.value ∙ sym (ap (number_or c.args.default c.args.least c.args.most) (is ∙ ap (option_map (λ s. s.now)) c.in-Some.is))

pub returns-in-None-clause-value : goal.returns-in-None-clause-value
returns-in-None-clause-value c =
    let is = found (found_of c.args.matches.now) c.args.name.now c.get_str.result c.get_str.ensures in
    sym (ap (number_or c.args.default c.args.least c.args.most) (is ∙ ap (option_map (λ s. s.now)) c.in-None.is))
