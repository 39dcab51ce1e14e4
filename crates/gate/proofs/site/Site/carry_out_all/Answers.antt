use Rattle.std.proofs.Common.{◌≡◌, ◌∙◌, ◌∷◌, refl, rules, sym, subst, List}
use Rattle.gate_core.specs.declared.act.Act.{Act}
use Rattle.gate.specs.Sides.{side}
use Rattle.gate.proofs.Running.{MadeUpTo, made_next, made_none, made_partly}
use Rattle.gate.proofs.site.Site.carry_out_all.Goals as goal

pub loop-act-init : goal.loop-act-init
loop-act-init g c =
    let a = side g.L.Link g.U.Users c.args.self.now c.args.users.now in
    let into : c.into_iter-act-iterator.result.rest.items ≡ c.args.acts.items = search rules in
    record {
      made = subst (λ (xs : List Act). MadeUpTo c.args.acts.items xs a a) (sym into) (made_none c.args.acts.items a);
      state = refl;
    }

pub loop-act-preserved : goal.loop-act-preserved
loop-act-preserved g c =
    let a = side g.L.Link g.U.Users c.args.self.now c.args.users.now in
    let b = side g.L.Link g.U.Users c.loop-act.self c.loop-act.users in
    let d = side g.L.Link g.U.Users c.carry_out.new.self c.carry_out.new.users in
    let split : c.loop-act.act-iterator.rest.items ≡ c.in-Some.act ∷ c.next.new.self.rest.items = search rules in
    record {
      made = made_next c.args.acts.items c.in-Some.act c.next.new.self.rest.items a b d
          (subst (λ (xs : List Act). MadeUpTo c.args.acts.items xs a b) split c.loop-act.invariant.made) c.in_default.ensures.makes;
      state = c.carry_out.ensures.state ∙ c.loop-act.invariant.state;
    }

pub returns-in-Err-clause-makes : goal.returns-in-Err-clause-makes
returns-in-Err-clause-makes g c =
    let a = side g.L.Link g.U.Users c.args.self.now c.args.users.now in
    let b = side g.L.Link g.U.Users c.loop-act.self c.loop-act.users in
    let d = side g.L.Link g.U.Users c.carry_out.new.self c.carry_out.new.users in
    let split : c.loop-act.act-iterator.rest.items ≡ c.in-Some.act ∷ c.next.new.self.rest.items = search rules in
    made_partly c.args.acts.items c.in-Some.act c.next.new.self.rest.items a b d
    (subst (λ (xs : List Act). MadeUpTo c.args.acts.items xs a b) split c.loop-act.invariant.made) c.in-Err.ensures.makes
