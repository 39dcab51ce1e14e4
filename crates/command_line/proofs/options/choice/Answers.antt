use Rattle.std.proofs.Common.{◌≡◌, ap, sym, ◌∙◌, option_map, Some, None, rules}
use Rattle.clap.specs.Words.{found_of}
use Rattle.command_line.specs.Commands.{choice_of}
use Rattle.command_line.proofs.FoundLemmas.{found}
use Rattle.command_line.proofs.options.choice.Goals as goal

pub returns-in_err-n-in-Some : goal.returns-in_err-n-in-Some
returns-in_err-n-in-Some c =
    let is = found (found_of c.args.matches.now) c.args.name.now c.get_str.result c.get_str.ensures in
    let none : c.from_residual.result ≡ None = search rules in
    none
    ∙ sym (ap choice_of (is ∙ ap (option_map (λ s. s.now)) c.in-Some.is)
    ∙ ap (option_map Some) (sym c.number.ensures.value ∙ c.in_err-n-in-Some.was))

pub returns-in_ok-n-in-Some : goal.returns-in_ok-n-in-Some
returns-in_ok-n-in-Some c =
    let is = found (found_of c.args.matches.now) c.args.name.now c.get_str.result c.get_str.ensures in
    sym (ap choice_of (is ∙ ap (option_map (λ s. s.now)) c.in-Some.is)
    ∙ ap (option_map Some) (sym c.number.ensures.value ∙ c.in_ok-n-in-Some.was))

pub returns-in-None : goal.returns-in-None
returns-in-None c =
    let is = found (found_of c.args.matches.now) c.args.name.now c.get_str.result c.get_str.ensures in
    sym (ap choice_of (is ∙ ap (option_map (λ s. s.now)) c.in-None.is))
