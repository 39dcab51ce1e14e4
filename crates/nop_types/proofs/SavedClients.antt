-- Clients that are as they are saved, and one more.
use Rattle.std.proofs.Common.{◌≡◌, ℕ, ◌+◌, ◌<◌, List, [], ◌∷◌, ◌++◌, length, map, take, get_or, sym, ap, subst, ◌∙◌}
use Rattle.std.proofs.lemmas.List.{take_more}
use Rattle.std.specs.List.{AllByRecursion}
use Rattle.nop_types.specs.declared.checkpoint.SavedClient.{SavedClient}
use Rattle.nop_types.specs.Checkpoints.{saved_account, IsSavedAccount}

AllSaved : List SavedClient → Type 0
AllSaved clients = AllByRecursion IsSavedAccount (map saved_account clients)

saved_behind : (clients : List SavedClient) (c : SavedClient) → AllSaved clients → IsSavedAccount (saved_account c)
    → AllSaved (clients ++ c ∷ [])
unfolding AllSaved
saved_behind [] c all one = (one, tt)
saved_behind (x ∷ xs) c all one = (all.0, saved_behind xs c all.1 one)

pub saved_more : (clients : List SavedClient) (i : ℕ) (c : SavedClient) → i < length clients → c ≡ get_or clients i c
    → IsSavedAccount (saved_account c) → AllByRecursion IsSavedAccount (map saved_account (take i clients))
    → AllByRecursion IsSavedAccount (map saved_account (take (i + 1) clients))
unfolding AllSaved
saved_more clients i c lt is one all =
    let more : take (i + 1) clients ≡ take i clients ++ c ∷ [] =
    take_more clients i c lt ∙ ap (λ (x : SavedClient). take i clients ++ x ∷ []) (sym is) in
    subst AllSaved (sym more) (saved_behind (take i clients) c all one)
