-- Clients that ascend are the entries of the table that they make.
use Rattle.std.proofs.Common.{◌≡◌, ℕ, ◌+◌, ◌≤◌, true, List, [], ◌∷◌, length, refl, sym, ap, ◌∙◌, arith}
use Rattle.std.specs.Prelude.{nat_le, nat_lt}
use Rattle.std.specs.declared.cmp.Ordering.{Ordering}
use Rattle.std.specs.declared.cmp.Ordering.TheVariants.{Less}
use Rattle.std.specs.Ordering.{nat_cmp}
use Rattle.std.specs.FinMap as finite
use Rattle.std.specs.FinMap.Entries.{put, by_order}
use Rattle.std.proofs.lemmas.Bool.{and_parts, leb-true}
use Rattle.std.proofs.lemmas.Bool.Decides.{nat_tests}
use Rattle.std.proofs.lemmas.Cmp.{nat_cmp_total}
use Rattle.nop_types.specs.Tables.{Account}
use Rattle.nop_types.specs.Checkpoints.{are_saved, is_account}

less : (k q : ℕ) → k + 1 ≤ q → nat_cmp k q ≡ Less
less k q h = let is : nat_lt k q ≡ true = grind (arith, nat_tests, h) in rw is refl

-- a client below all others stays in front
put_first : (k : ℕ) (v : Account) (es : List (ℕ × Account)) → are_saved (k + 1) es ≡ true → put nat_cmp k v es ≡ (k, v) ∷ es
put_first k v [] h = refl
put_first k v (e ∷ es) h =
    let least : k + 1 ≤ e.0 = leb-true (k + 1) e.0 (and_parts (nat_le (k + 1) e.0) _ h).0 in
    ap (λ (o : Ordering). by_order o ((k, v) ∷ e ∷ es) ((e.0, v) ∷ es) (e ∷ put nat_cmp k v es)) (less k e.0 least)

nothing : {A : Type 0} (xs : List A) → length xs ≡ 0 → xs ≡ []
nothing [] h = refl
nothing (x ∷ xs) h = absurd (omega (arith, h))

pub entries_of_saved : (least : ℕ) (es : List (ℕ × Account)) → are_saved least es ≡ true
    → finite.entries (finite.from_entries {R = nat_cmp} es) ≡ es
entries_of_saved least [] h =
    nothing (finite.entries finite.empty) (sym (finite.len-entries finite.empty) ∙ finite.len-empty nat_cmp Account)
entries_of_saved least (e ∷ es) h =
    let rest : are_saved (e.0 + 1) es ≡ true = (and_parts (is_account e.1) _ (and_parts (nat_le least e.0) _ h).1).1 in
    finite.entries-insert nat_cmp_total (finite.from_entries es) e.0 e.1
    ∙ ap (put nat_cmp e.0 e.1) (entries_of_saved (e.0 + 1) es rest)
    ∙ put_first e.0 e.1 es rest
