use Rattle.std.proofs.Common.{◌≡◌, ◌<◌, List, length, Some, sym, ap, subst, ◌∙◌, arith}
use Rattle.std.specs.Prelude.{IsTrue, count_by}
use Rattle.nop_types.specs.declared.checkpoint.Answered.{Answered}
use Rattle.nop_types.specs.declared.limits.TheConstants.{WINDOW}
use Rattle.nop_types.specs.Lists.{any_above}
use Rattle.nop_types.specs.Tables.{Account, account_with, is_new_to, kept_ids, with_answered}
use Rattle.nop_types.specs.Checkpoints.{is_kept}
use Rattle.lemmas.proofs.Kept.{more_is_kept}
use Rattle.client_table.specs.Accounts.{is_far}
use Rattle.client_table.specs.Table.{removed_from}
use Rattle.client_table.specs.Removing.{removed_of}
use Rattle.client_table.proofs.AccountLemmas.{keeps, none_left_above}
use Rattle.client_table.proofs.account.Account.keep.Goals as goal

pub put-requires-clause-others : goal.put-requires-clause-others
put-requires-clause-others c =
    let old : Account = record { greatest = c.self.inside.greatest; kept = c.self.inside.kept.items } in
    ap (λ (l : List Answered). any_above (kept_ids l) old.greatest) c.in_ok-dropped.ensures.rest
    ∙ none_left_above old c.count_far-count.result c.self.invariant.0

pub put-requires-clause-room : goal.put-requires-clause-room
put-requires-clause-room c =
    let old : Account = record { greatest = c.self.inside.greatest; kept = c.self.inside.kept.items } in
    let new : IsTrue (is_new_to WINDOW (Some old) c.args.answered.id) =
    subst (λ (a : Account). IsTrue (is_new_to WINDOW (Some a) c.args.answered.id)) (sym c.self.view_is) c.requires in
    let count : c.count_far-count.result ≡ count_by (is_far c.max-greatest.result) c.self.inside.kept.items =
    c.count_far-count.ensures.count ∙ ap (λ (a : Account). count_by (is_far c.max-greatest.result) a.kept) (sym c.self.view_is) in
    let all = keeps old c.args.answered c.self.invariant.0 new c.max-greatest.result c.count_far-count.result c.max-greatest.ensures count in
    let len : length c.take_front.new.kept.items < WINDOW =
    subst (λ (l : List Answered). length l < WINDOW) (sym c.in_ok-dropped.ensures.rest) all.2 in
    let same = c.take_front.ensures.capacity in
    let room = c.self.invariant.1 in
    let is = c.take_front.new.kept.ok.0 in
    omega (arith, len, same, room, is)

pub invariant_of-self-2 : goal.invariant_of-self-2
invariant_of-self-2 c =
    let old : Account = record { greatest = c.self.inside.greatest; kept = c.self.inside.kept.items } in
    let new : IsTrue (is_new_to WINDOW (Some old) c.args.answered.id) =
    subst (λ (a : Account). IsTrue (is_new_to WINDOW (Some a) c.args.answered.id)) (sym c.self.view_is) c.requires in
    let count : c.count_far-count.result ≡ count_by (is_far c.max-greatest.result) c.self.inside.kept.items =
    c.count_far-count.ensures.count ∙ ap (λ (a : Account). count_by (is_far c.max-greatest.result) a.kept) (sym c.self.view_is) in
    let all = keeps old c.args.answered c.self.invariant.0 new c.max-greatest.result c.count_far-count.result c.max-greatest.ensures count in
    let items : c.put.new.kept.items ≡ (account_with WINDOW (Some old) c.args.answered).kept =
    c.put.ensures.items ∙ ap (with_answered c.args.answered) c.in_ok-dropped.ensures.rest ∙ all.0 in
    let whole : record { greatest = c.max-greatest.result; kept = c.put.new.kept.items } ≡ account_with WINDOW (Some old) c.args.answered =
    λ i. record { greatest = c.max-greatest.ensures i; kept = items i } in
    let more = c.put.ensures.capacity in
    let same = c.take_front.ensures.capacity in
    let room = c.self.invariant.1 in
    (ap is_kept whole ∙ more_is_kept old c.args.answered c.self.invariant.0 new, omega (arith, more, same, room))

pub returns-clause-account : goal.returns-clause-account
returns-clause-account c =
    let old : Account = record { greatest = c.self.inside.greatest; kept = c.self.inside.kept.items } in
    let new : IsTrue (is_new_to WINDOW (Some old) c.args.answered.id) =
    subst (λ (a : Account). IsTrue (is_new_to WINDOW (Some a) c.args.answered.id)) (sym c.self.view_is) c.requires in
    let count : c.count_far-count.result ≡ count_by (is_far c.max-greatest.result) c.self.inside.kept.items =
    c.count_far-count.ensures.count ∙ ap (λ (a : Account). count_by (is_far c.max-greatest.result) a.kept) (sym c.self.view_is) in
    let all = keeps old c.args.answered c.self.invariant.0 new c.max-greatest.result c.count_far-count.result c.max-greatest.ensures count in
    let items : c.put.new.kept.items ≡ (account_with WINDOW (Some old) c.args.answered).kept =
    c.put.ensures.items ∙ ap (with_answered c.args.answered) c.in_ok-dropped.ensures.rest ∙ all.0 in
    let whole : record { greatest = c.max-greatest.result; kept = c.put.new.kept.items } ≡ account_with WINDOW (Some old) c.args.answered =
    λ i. record { greatest = c.max-greatest.ensures i; kept = items i } in
    whole ∙ ap (λ (a : Account). account_with WINDOW (Some a) c.args.answered) c.self.view_is

pub returns-clause-removed : goal.returns-clause-removed
returns-clause-removed c =
    let old : Account = record { greatest = c.self.inside.greatest; kept = c.self.inside.kept.items } in
    let new : IsTrue (is_new_to WINDOW (Some old) c.args.answered.id) =
    subst (λ (a : Account). IsTrue (is_new_to WINDOW (Some a) c.args.answered.id)) (sym c.self.view_is) c.requires in
    let count : c.count_far-count.result ≡ count_by (is_far c.max-greatest.result) c.self.inside.kept.items =
    c.count_far-count.ensures.count ∙ ap (λ (a : Account). count_by (is_far c.max-greatest.result) a.kept) (sym c.self.view_is) in
    let all = keeps old c.args.answered c.self.invariant.0 new c.max-greatest.result c.count_far-count.result c.max-greatest.ensures count in
    let dropped = c.in_ok-dropped.ensures.front ∙ all.1 in
    let mine : removed_of (record { greatest = c.self.inside.greatest; dropped = c.in_ok-dropped.dropped }) ≡ removed_from old c.args.answered.id =
    λ i. record { greatest = c.self.inside.greatest; dropped = dropped i } in
    mine ∙ ap (λ (a : Account). removed_from a c.args.answered.id) c.self.view_is
