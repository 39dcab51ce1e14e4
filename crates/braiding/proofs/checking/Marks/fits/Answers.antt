use Rattle.std.proofs.Common.{◌∙◌, ◌<◌, ℕ, arith, inl, inr, rules, subst, sym}
use Rattle.std.proofs.lemmas.Bool.{cases_eq}
use Rattle.std.proofs.lemmas.List.{length-map}
use Rattle.lemmas.proofs.Members.{Has-push_cases}
use Rattle.braiding.proofs.Orders.{behind_push, set_seen}
use Rattle.braiding.proofs.checking.Marks.fits.Goals as goal

pub returns-clause-fits : goal.returns-clause-fits
returns-clause-fits c =
    λ yes before marked.
    let p = c.args.place in
    let within = c.if-place-lines.false in
    let follows = c.in_ok-follows.ensures.follows c.if-not-branch.false in
    record {
      within = subst (λ (n : ℕ). p < n) (sym (length-map _ _)) (omega (arith, within));
      once = λ has. let seen = marked.seen p has in search rules;
      together = λ none. follows.together none ∙ marked.behind;
      own = follows.own before marked.latest;
    }

pub returns-clause-marked : goal.returns-clause-marked
returns-clause-marked c =
    let p = c.args.place in
    let long = c.requires in
    let within = c.if-place-lines.false in
    let follows = c.in_ok-follows.ensures.follows c.if-not-branch.false in
    λ e before marked. record {
      seen = rw c.in_ok-follows.ensures.seen (λ q has. set_seen c.args.self.now.seen.items p q (omega (arith, long, within)) (cases_eq q p)
          (elim (Has-push_cases before p q has) [
            | inl earlier ↦ inl (marked.seen q earlier)
            | inr same ↦ inr (sym same)
          ]));
      behind = sym (behind_push 0 before p);
      latest = follows.latest before marked.latest;
    }
