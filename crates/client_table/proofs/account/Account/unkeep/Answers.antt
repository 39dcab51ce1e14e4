use Rattle.std.proofs.Common.{◌≡◌, ◌≤◌, ◌+◌, ◌++◌, List, length, sym, ap, subst, ◌∙◌, arith}
use Rattle.std.specs.Prelude.{IsTrue}
use Rattle.std.proofs.lemmas.List.{length-append}
use Rattle.nop_types.specs.declared.checkpoint.Answered.{Answered}
use Rattle.nop_types.specs.declared.limits.TheConstants.{WINDOW}
use Rattle.nop_types.specs.Tables.{Account, without}
use Rattle.nop_types.specs.Checkpoints.{is_kept}
use Rattle.client_table.specs.Dropping.{results_of}
use Rattle.client_table.specs.Table.{account_before}
use Rattle.client_table.specs.Removing.{removed_of}
use Rattle.client_table.proofs.AccountLemmas.{kept_fit}
use Rattle.client_table.proofs.account.Account.unkeep.Goals as goal

pub put_front-requires : goal.put_front-requires
put_front-requires c =
    let old : Account = record { greatest = c.self.inside.greatest; kept = c.self.inside.kept.items } in
    let fits : IsTrue (is_kept (account_before old c.args.id (removed_of c.args.removed))) =
    subst (λ (a : Account). IsTrue (is_kept (account_before a c.args.id (removed_of c.args.removed)))) (sym c.self.view_is) c.requires in
    let few : length (account_before old c.args.id (removed_of c.args.removed)).kept ≤ WINDOW =
    kept_fit (account_before old c.args.id (removed_of c.args.removed)) fits in
    let both : length (results_of c.args.removed.dropped ++ without c.args.id c.self.inside.kept.items)
    ≡ length (results_of c.args.removed.dropped) + length (without c.args.id c.self.inside.kept.items) =
    length-append (results_of c.args.removed.dropped) (without c.args.id c.self.inside.kept.items) in
    let left : length c.take_out.new.kept.items ≡ length (without c.args.id c.self.inside.kept.items) = ap length c.take_out.ensures.items in
    let same = c.take_out.ensures.capacity in
    let room = c.self.invariant.1 in
    let back = c.take_out.new.kept.ok.0 in
    omega (arith, few, both, left, same, room, back)

pub invariant_of-self : goal.invariant_of-self
invariant_of-self c =
    let old : Account = record { greatest = c.self.inside.greatest; kept = c.self.inside.kept.items } in
    let fits : IsTrue (is_kept (account_before old c.args.id (removed_of c.args.removed))) =
    subst (λ (a : Account). IsTrue (is_kept (account_before a c.args.id (removed_of c.args.removed)))) (sym c.self.view_is) c.requires in
    let items : c.put_front.new.kept.items ≡ results_of c.args.removed.dropped ++ without c.args.id c.self.inside.kept.items =
    c.put_front.ensures.items ∙ ap (λ (l : List Answered). results_of c.args.removed.dropped ++ l) c.take_out.ensures.items in
    let whole : record { greatest = c.args.removed.greatest; kept = c.put_front.new.kept.items }
    ≡ account_before old c.args.id (removed_of c.args.removed) =
    λ i. record { greatest = c.args.removed.greatest; kept = items i } in
    let more = c.put_front.ensures.capacity in
    let same = c.take_out.ensures.capacity in
    let room = c.self.invariant.1 in
    (ap is_kept whole ∙ fits, omega (arith, more, same, room))

pub returns : goal.returns
returns c =
    let old : Account = record { greatest = c.self.inside.greatest; kept = c.self.inside.kept.items } in
    let items : c.put_front.new.kept.items ≡ results_of c.args.removed.dropped ++ without c.args.id c.self.inside.kept.items =
    c.put_front.ensures.items ∙ ap (λ (l : List Answered). results_of c.args.removed.dropped ++ l) c.take_out.ensures.items in
    let whole : record { greatest = c.args.removed.greatest; kept = c.put_front.new.kept.items }
    ≡ account_before old c.args.id (removed_of c.args.removed) =
    λ i. record { greatest = c.args.removed.greatest; kept = items i } in
    whole ∙ ap (λ (a : Account). account_before a c.args.id (removed_of c.args.removed)) c.self.view_is
