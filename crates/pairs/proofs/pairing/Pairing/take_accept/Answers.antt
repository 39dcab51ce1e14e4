use Rattle.std.proofs.Common.{◌≡◌, ◌++◌, ◌∷◌, [], ℕ, ◌<◌, length, Option, Some, None, refl, ap, sym, ◌∙◌, add-one, arith, rules}
use Rattle.std.specs.Prelude.{slice_set}
use Rattle.std.proofs.lemmas.Option.{slice_get_read}
use Rattle.pairs.specs.Said.{said_by}
use Rattle.pairs.specs.Submitted.{place_in}
use Rattle.pairs.proofs.PairingLemmas.{pairing_accepts}
use Rattle.pairs.proofs.StopLemmas.{all_good, lacks_submit, accepts_again, some_of, none_of}
use Rattle.pairs.proofs.pairing.Pairing.take_accept.Goals as goal

pub returns-in_default-clause-err : goal.returns-in_default-clause-err
returns-in_default-clause-err c =
    let lines = said_by c.args.claims.now in
    let old = c.args.self.now in
    let f = place_in old.submitted in
    let accepts = old.pairs.accepts.items in
    let submits = old.pairs.submits.items in (
      lacks_submit lines c.args.place f accepts submits c.requires.pairing c.args.client c.args.id c.requires.line.0 c.requires.line.1
          (sym c.find.ensures ∙ c.in_default.is),
      all_good lines c.args.place f accepts submits c.requires.pairing,
    )

pub index-requires : goal.index-requires
index-requires c =
    let p = c.requires.pairing in
    let s = p.noted.found (c.args.client, c.args.id) c.in-Some.submit (sym c.find.ensures ∙ c.in-Some.is) in
    omega (arith, s.before, p.paired.accepts_length)

pub returns-then-is_some-clause-err : goal.returns-then-is_some-clause-err
returns-then-is_some-clause-err c =
    let lines = said_by c.args.claims.now in
    let old = c.args.self.now in
    let f = place_in old.submitted in
    let accepts = old.pairs.accepts.items in
    let p = c.requires.pairing in
    let some = sym c.find.ensures ∙ c.in-Some.is in
    let s = p.noted.found (c.args.client, c.args.id) c.in-Some.submit some in
    let within : c.in-Some.submit < length accepts = omega (arith, s.before, p.paired.accepts_length) in
    let read = slice_get_read accepts _ c.in-Some.submit c.index.result.now refl within c.index.ensures in
    let found = some_of c.index.result.now (sym c.is_some.ensures ∙ c.if-is_some.true) in (
      accepts_again lines c.args.place f accepts old.pairs.submits.items p c.args.client c.args.id c.requires.line.0 c.requires.line.1
          c.in-Some.submit found.0 some (read ∙ ap (λ (t : Option ℕ). Some t) found.1),
      all_good lines c.args.place f accepts old.pairs.submits.items p,
    )

pub index_mut-requires : goal.index_mut-requires
index_mut-requires c =
    let p = c.requires.pairing in
    let s = p.noted.found (c.args.client, c.args.id) c.in-Some.submit (sym c.find.ensures ∙ c.in-Some.is) in
    omega (arith, s.before, p.paired.accepts_length)

pub returns-clause-ok : goal.returns-clause-ok
returns-clause-ok c =
    let lines = said_by c.args.claims.now in
    let old = c.args.self.now in
    let f = place_in old.submitted in
    let accepts = old.pairs.accepts.items in
    let submits = old.pairs.submits.items in
    let p = c.requires.pairing in
    let i = c.in-Some.submit in
    let k = c.args.place in
    let some = sym c.find.ensures ∙ c.in-Some.is in
    let s = p.noted.found (c.args.client, c.args.id) i some in
    let within : i < length accepts = omega (arith, s.before, p.paired.accepts_length) in
    let read = slice_get_read accepts _ i c.index.result.now refl within c.index.ensures in
    let free = read ∙ ap (λ (t : Option ℕ). Some t) (none_of c.index.result.now (sym c.is_some.ensures ∙ c.if-is_some.false)) in
    let pushed : c.push.new.self.items ≡ slice_set accepts i (Some k) ++ None ∷ [] = search rules in
    let added : c.push-2.new.self.items ≡ submits ++ Some i ∷ [] = search rules in
    rw (pushed, added, add-one k)
    (pairing_accepts lines k f accepts submits p c.args.client c.args.id c.requires.line.0 c.requires.line.1 i some free)
