use Rattle.std.proofs.Common.{◌≡◌, ◌++◌, ◌∷◌, [], List, sym, ap, subst, ◌∙◌, append_assoc, arith, rules}
use Rattle.std.specs.Prelude.{map}
use Rattle.std.proofs.lemmas.List.{append-nil, nil_from_length}
use Rattle.nop_types.specs.Checkpoints.{saved_account}
use Rattle.nop_types.specs.declared.checkpoint.SavedClient.{SavedClient}
use Rattle.client_table.specs.Answers.{Ascend}
use Rattle.client_table.proofs.EntryLemmas.{saved_ascend}
use Rattle.client_table.proofs.SavedLemmas.{saved_is_kept}
use Rattle.client_table.proofs.accounts.Accounts.load.Goals as goal

pub load-requires : goal.load-requires
load-requires c =
    let next : c.loop-saved.saved-iterator.rest.items ≡ c.in-Some.saved ∷ c.next.new.self.rest.items = search rules in
    let left : (c.loop-saved.yielded ++ c.in-Some.saved ∷ []) ++ c.next.new.self.rest.items ≡ c.args.clients.items =
    append_assoc c.loop-saved.yielded (c.in-Some.saved ∷ []) c.next.new.self.rest.items
    ∙ sym (ap (λ (rest : List SavedClient). c.loop-saved.yielded ++ rest) next) ∙ c.loop-saved.invariant.left in
    saved_is_kept c.loop-saved.yielded c.in-Some.saved c.next.new.self.rest.items c.args.clients.items left c.requires

pub invariant_of-result : goal.invariant_of-result
invariant_of-result c =
    let rest = c.loop-saved.saved-iterator.rest in
    let none : rest.items ≡ [] =
    nil_from_length rest.items (let same = rest.ok.0 in let empty = c.in-None.ensures.steps.0 in omega (arith, same, empty)) in
    let all : c.loop-saved.yielded ≡ c.args.clients.items =
    sym (append-nil c.loop-saved.yielded) ∙ sym (ap (λ (rest : List SavedClient). c.loop-saved.yielded ++ rest) none)
    ∙ c.loop-saved.invariant.left in
    subst Ascend (sym (c.loop-saved.invariant.loaded ∙ ap (map saved_account) all))
    (saved_ascend (map saved_account c.args.clients.items) c.requires)
