-- Entries that are read are those that were written, and what was written is read again.
use Rattle.std.proofs.Common.{◌≡◌, ℕ, zero, suc, List, [], ◌∷◌, ◌++◌, length, Ok, refl, ap, subst, ◌∙◌, append_assoc}
use Rattle.std.specs.List.{flat_map, AllByRecursion}
use Rattle.std.proofs.lemmas.List.Concat.{flat_map-cons}
use Rattle.nop_types.specs.Ranges.{EntryFits}
use Rattle.nop_types.specs.declared.request.Entry.{Entry}
use Rattle.nop_types.specs.declared.request.Entry.TheVariants.{NoOp, Req}
use Rattle.oum_codec.specs.Numbers.{IsBytes}
use Rattle.oum_codec.proofs.Steps.{bind_ok, ok_is}
use Rattle.oum_codec.proofs.Numbers.{IsBytes-rest, Takes, Takes-then}
use Rattle.peer_codec.specs.Spelling.{entry_bytes}
use Rattle.peer_codec.specs.Fields.{request_at}
use Rattle.peer_codec.specs.Logs.{entry_at, entries_at}
use Rattle.peer_codec.proofs.EachField.{request_takes, request_again}

entry_takes : (bytes : List ℕ) (x : Entry × List ℕ) → IsBytes bytes → entry_at bytes ≡ Ok x
    → Takes bytes (entry_bytes x.0) x.1 × EntryFits x.0
unfolding entry_at
entry_takes [] x fits e = absurd cc
entry_takes (zero ∷ bytes) x fits e =
    subst (λ (y : Entry × List ℕ). Takes (0 ∷ bytes) (entry_bytes y.0) y.1 × EntryFits y.0) (ok_is (NoOp, bytes) x e)
    (record { parts = refl; rest_fits = IsBytes-rest 0 bytes fits }, tt)
entry_takes (suc zero ∷ bytes) x fits e =
    let b = bind_ok (request_at bytes) (λ r. Ok (Req r.0, r.1)) x e in
    let t = request_takes bytes b.0 (IsBytes-rest 1 bytes fits) b.1 in
    let made : Entry × List ℕ = (Req b.0.0, b.0.1) in
    subst (λ (y : Entry × List ℕ). Takes (1 ∷ bytes) (entry_bytes y.0) y.1 × EntryFits y.0) (ok_is made x b.2)
    (record { parts = ap (λ (t : List ℕ). 1 ∷ t) t.0.parts; rest_fits = t.0.rest_fits }, t.1)
entry_takes (suc (suc tag) ∷ bytes) x fits e = absurd cc

entry_again : (n : Entry) (rest : List ℕ) → EntryFits n → entry_at (entry_bytes n ++ rest) ≡ Ok (n, rest)
unfolding entry_at
entry_again NoOp rest fits = refl
entry_again (Req r) rest fits = rw (request_again r rest fits) refl

pub record TakesEntries (n : ℕ) (bytes : List ℕ) (x : List Entry × List ℕ) : Type 0 where
  pub takes : Takes bytes (flat_map entry_bytes x.0) x.1
  pub count : length x.0 ≡ n
  pub each : AllByRecursion EntryFits x.0

pub entries_take : (n : ℕ) (bytes : List ℕ) (x : List Entry × List ℕ) → IsBytes bytes → entries_at n bytes ≡ Ok x → TakesEntries n bytes x
unfolding entries_at
entries_take zero bytes x fits e =
    subst (TakesEntries zero bytes) (ok_is ([], bytes) x e)
    (record { takes = record { parts = refl; rest_fits = fits }; count = refl; each = tt })
entries_take (suc n) bytes x fits e =
    let a = bind_ok (entry_at bytes) _ x e in
    let b = bind_ok (entries_at n a.0.1) _ x a.2 in
    let first = entry_takes bytes a.0 fits a.1 in
    let second = entries_take n a.0.1 b.0 first.0.rest_fits b.1 in
    let both = Takes-then bytes (entry_bytes a.0.0) a.0.1 (flat_map entry_bytes b.0.0) b.0.1 first.0 second.takes in
    let made : List Entry × List ℕ = (a.0.0 ∷ b.0.0, b.0.1) in
    subst (TakesEntries (suc n) bytes) (ok_is made x b.2)
    (record { takes = rw flat_map-cons both; count = ap suc second.count; each = (first.1, second.each) })

pub entries_again : (ns : List Entry) (rest : List ℕ) → AllByRecursion EntryFits ns
    → entries_at (length ns) (flat_map entry_bytes ns ++ rest) ≡ Ok (ns, rest)
unfolding entries_at
entries_again [] rest fits = refl
entries_again (n ∷ ns) rest fits =
    let regrouped : flat_map entry_bytes (n ∷ ns) ++ rest ≡ entry_bytes n ++ (flat_map entry_bytes ns ++ rest) =
    ap (λ (x : List ℕ). x ++ rest) (flat_map-cons entry_bytes n ns) ∙ append_assoc (entry_bytes n) (flat_map entry_bytes ns) rest in
    ap (entries_at (suc (length ns))) regrouped
    ∙ rw (entry_again n (flat_map entry_bytes ns ++ rest) fits.0, entries_again ns rest fits.1) refl
