use Rattle.std.proofs.Common.{◌≡◌, ◌++◌, ◌∷◌, [], None, sym, ◌∙◌, add-one, rules}
use Rattle.pairs.specs.Said.{said_by}
use Rattle.pairs.specs.Submitted.{place_in}
use Rattle.pairs.proofs.PairingLemmas.{pairing_submits}
use Rattle.pairs.proofs.StopLemmas.{all_good, repeats, some_of, none_of}
use Rattle.pairs.proofs.pairing.Pairing.take_submit.Goals as goal

pub returns-then-is_some-clause-err : goal.returns-then-is_some-clause-err
returns-then-is_some-clause-err c =
    let lines = said_by c.args.claims.now in
    let old = c.args.self.now in
    let f = place_in old.submitted in
    let found = some_of c.find.result (sym c.is_some.ensures ∙ c.if-is_some.true) in (
      repeats lines c.args.place f old.pairs.accepts.items old.pairs.submits.items c.requires.pairing c.args.request.now c.requires.line
          found.0 (sym c.find.ensures ∙ found.1),
      all_good lines c.args.place f old.pairs.accepts.items old.pairs.submits.items c.requires.pairing,
    )

pub returns-clause-ok : goal.returns-clause-ok
returns-clause-ok c =
    let old = c.args.self.now in
    let none = sym c.find.ensures ∙ none_of c.find.result (sym c.is_some.ensures ∙ c.if-is_some.false) in
    let accepts : c.push.new.self.items ≡ old.pairs.accepts.items ++ None ∷ [] = search rules in
    let submits : c.push-2.new.self.items ≡ old.pairs.submits.items ++ None ∷ [] = search rules in
    rw (accepts, submits, add-one c.args.place)
    (pairing_submits (said_by c.args.claims.now) c.args.place (place_in old.submitted) old.pairs.accepts.items old.pairs.submits.items
    c.requires.pairing c.args.request.now c.requires.line none (place_in c.note.new.self) c.in_ok-note.ensures)
