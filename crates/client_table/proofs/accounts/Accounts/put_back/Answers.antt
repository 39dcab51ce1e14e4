use Rattle.std.proofs.Common.{Option, Some, Result, IfOk, ℕ, sym, ap, subst, ◌∙◌}
use Rattle.std.specs.FinMap as finite
use Rattle.nop_types.specs.Tables.{Account}
use Rattle.client_table.specs.Answers.{IsAt, table_of}
use Rattle.client_table.specs.Removing.{removed_of}
use Rattle.client_table.specs.Table.{MayReturn, put_on}
use Rattle.client_table.proofs.EntryLemmas.{account_at, is_there, table_written}
use Rattle.client_table.proofs.accounts.Accounts.put_back.Goals as goal

pub unwrap-place-requires : goal.unwrap-place-requires
unwrap-place-requires c =
    is_there c.args.self.now c.args.client c.args.id (removed_of c.args.removed) c.search.result c.search.ensures.absent c.requires

pub unkeep-requires : goal.unkeep-requires
unkeep-requires c =
    let at = subst (λ (r : Result ℕ ℕ). IfOk r (IsAt c.args.self.now c.args.client)) c.unwrap-place.ensures c.search.ensures.found in
    let here = account_at c.self.inside.entries.items c.args.self.now c.self.view_is c.self.invariant c.args.client
    c.unwrap-place.result at c.index_mut.result.now c.index_mut.ensures.value in
    subst (λ (o : Option Account). MayReturn o c.args.id (Some (removed_of c.args.removed))) here c.requires

pub returns : goal.returns
returns c =
    let at = subst (λ (r : Result ℕ ℕ). IfOk r (IsAt c.args.self.now c.args.client)) c.unwrap-place.ensures c.search.ensures.found in
    let here = account_at c.self.inside.entries.items c.args.self.now c.self.view_is c.self.invariant c.args.client
    c.unwrap-place.result at c.index_mut.result.now c.index_mut.ensures.value in
    table_written c.self.inside.entries.items c.args.self.now c.self.view_is c.self.invariant c.args.client
    c.unwrap-place.result at c.index_mut.result.now c.index_mut.ensures.value c.unkeep.new.self
    ∙ ap (finite.insert (table_of c.args.self.now) c.args.client) c.unkeep.ensures
    ∙ ap (put_on (table_of c.args.self.now) c.args.client c.args.id (removed_of c.args.removed)) (sym here)
