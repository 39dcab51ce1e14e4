-- Results of a client that are read are those that were written, and what was written is read again.
use Rattle.std.proofs.Common.{◌≡◌, ℕ, zero, suc, ◌+◌, ◌≤◌, ◌<◌, ◌^◌, Bool, true, cond, max, List, [], ◌∷◌, ◌++◌, length, Ok, refl, sym, ap, subst, ◌∙◌}
use Rattle.std.proofs.Common.{append_assoc, arith}
use Rattle.std.specs.Prelude.{nat_le, ◌&&◌, ◌==◌, All}
use Rattle.std.specs.Int.{w64}
use Rattle.std.specs.List.{flat_map}
use Rattle.std.proofs.lemmas.Bool.{and_from, and_parts, eq-eqb, eqb-true, ne_eqb, le-leb, leb-true}
use Rattle.std.proofs.lemmas.List.Concat.{flat_map-cons}
use Rattle.std.proofs.lemmas.List.Elements.{All-nil, All-cons}
use Rattle.nop_types.specs.Checkpoints.{runs_to, is_answer, are_answers}
use Rattle.nop_types.specs.declared.checkpoint.Answered.{Answered}
use Rattle.nop_types.specs.declared.limits.TheConstants.{MAX_RESULT_BYTES}
use Rattle.lemmas.proofs.Kept.{answer_is, answer_parts, few}
use Rattle.oum_codec.specs.Numbers.{IsBytes, be_bytes}
use Rattle.oum_codec.specs.Spelling.{counted_bytes}
use Rattle.oum_codec.proofs.Steps.{bind_ok, ok_is}
use Rattle.oum_codec.proofs.Numbers.{Takes, Takes-then}
use Rattle.peer_codec.specs.Spelling.{answered_bytes}
use Rattle.peer_codec.specs.Fields.{kept_id_at, result_at}
use Rattle.peer_codec.specs.Logs.{answered_at, least_before, kept_at}
use Rattle.peer_codec.proofs.EachField.{kept_id_takes, kept_id_again, result_takes, result_again}

-- ---- one result

-- read from a number on, up to the greatest id
record AnsweredFits (least greatest : ℕ) (a : Answered) : Type 0 where
  low : least ≤ a.id
  high : a.id ≤ greatest
  short : length a.result ≤ MAX_RESULT_BYTES

answered_takes : (least greatest : ℕ) (bytes : List ℕ) (x : Answered × List ℕ) → IsBytes bytes → answered_at least greatest bytes ≡ Ok x
    → Takes bytes (answered_bytes x.0) x.1 × AnsweredFits least greatest x.0
unfolding answered_at
answered_takes least greatest bytes x fits e =
    let a = bind_ok (kept_id_at least greatest bytes) _ x e in
    let b = bind_ok (result_at a.0.1) _ x a.2 in
    let t0 = kept_id_takes least greatest bytes a.0 fits a.1 in
    let t1 = result_takes a.0.1 b.0 t0.0.rest_fits b.1 in
    let both = Takes-then bytes _ _ _ _ t0.0 t1.0 in
    let made : Answered × List ℕ = (record { id = a.0.0; result = b.0.0 }, b.0.1) in
    subst (λ (y : Answered × List ℕ). Takes bytes (answered_bytes y.0) y.1 × AnsweredFits least greatest y.0) (ok_is made x b.2)
    (both, record { low = t0.1.low; high = t0.1.high; short = t1.1 })

answered_again : (least greatest : ℕ) (a : Answered) (rest : List ℕ) → AnsweredFits least greatest a → a.id < 2 ^ 64
    → answered_at least greatest (answered_bytes a ++ rest) ≡ Ok (a, rest)
unfolding answered_at
answered_again least greatest a rest fits wide =
    let after : List ℕ = counted_bytes a.result ++ rest in
    let regrouped : answered_bytes a ++ rest ≡ be_bytes w64 a.id ++ after =
    append_assoc (be_bytes w64 a.id) (counted_bytes a.result) rest in
    ap (answered_at least greatest) regrouped
    ∙ rw (kept_id_again least greatest a.id after fits.low fits.high wide, result_again a.result rest fits.short) refl

-- ---- results, ids ascending up to the greatest

-- where others are left, the greatest id does not bind
least_else : (n least greatest : ℕ) → least_before (suc n) least greatest ≡ least
least_else n least greatest = ap (λ (b : Bool). cond b (max least greatest) least) (ne_eqb (suc n) 0 (λ e. omega (arith, e)))

pub record TakesKept (n least greatest : ℕ) (bytes : List ℕ) (x : List Answered × List ℕ) : Type 0 where
  pub takes : Takes bytes (flat_map answered_bytes x.0) x.1
  pub count : length x.0 ≡ n
  pub runs : runs_to greatest least x.0 ≡ true
  pub each : 1 ≤ least → are_answers x.0 ≡ true

some_kept_take : (n least greatest : ℕ) (bytes : List ℕ) (x : List Answered × List ℕ) → IsBytes bytes
    → kept_at (suc n) least greatest bytes ≡ Ok x → TakesKept (suc n) least greatest bytes x
unfolding kept_at
some_kept_take zero least greatest bytes x fits e =
    let a = bind_ok (answered_at (max least greatest) greatest bytes) _ x e in
    let first = answered_takes (max least greatest) greatest bytes a.0 fits a.1 in
    let low = first.1.low in
    let high = first.1.high in
    let none : Takes a.0.1 [] a.0.1 = record { parts = refl; rest_fits = first.0.rest_fits } in
    let both : Takes bytes (answered_bytes a.0.0 ++ []) a.0.1 = Takes-then bytes (answered_bytes a.0.0) a.0.1 [] a.0.1 first.0 none in
    let made : List Answered × List ℕ = (a.0.0 ∷ [], a.0.1) in
    subst (TakesKept 1 least greatest bytes) (ok_is made x a.2)
    (record {
      takes = rw flat_map-cons both;
      count = refl;
      runs =
          and_from (nat_le least a.0.0.id) (a.0.0.id + 1 == greatest + 1) (le-leb least a.0.0.id (omega (arith, low)))
          (eq-eqb (a.0.0.id + 1) (greatest + 1) (omega (arith, low, high)));
      each = λ from. and_from (is_answer a.0.0) true (answer_is a.0.0 (omega (arith, from, low)) first.1.short) refl;
    })
some_kept_take (suc n) least greatest bytes x fits e =
    let a = bind_ok (answered_at (least_before (suc n) least greatest) greatest bytes) _ x e in
    let b = bind_ok (kept_at (suc n) (a.0.0.id + 1) greatest a.0.1) _ x a.2 in
    let first = answered_takes (least_before (suc n) least greatest) greatest bytes a.0 fits a.1 in
    let second = some_kept_take n (a.0.0.id + 1) greatest a.0.1 b.0 first.0.rest_fits b.1 in
    let low : least ≤ a.0.0.id = subst (λ (m : ℕ). m ≤ a.0.0.id) (least_else n least greatest) first.1.low in
    let both = Takes-then bytes (answered_bytes a.0.0) a.0.1 (flat_map answered_bytes b.0.0) b.0.1 first.0 second.takes in
    let made : List Answered × List ℕ = (a.0.0 ∷ b.0.0, b.0.1) in
    subst (TakesKept (suc (suc n)) least greatest bytes) (ok_is made x b.2)
    (record {
      takes = rw flat_map-cons both;
      count = ap suc second.count;
      runs = and_from (nat_le least a.0.0.id) (runs_to greatest (a.0.0.id + 1) b.0.0) (le-leb least a.0.0.id low) second.runs;
      each = λ from.
          and_from (is_answer a.0.0) (are_answers b.0.0) (answer_is a.0.0 (omega (arith, from, low)) first.1.short)
          (second.each (omega arith));
    })

pub kept_takes : (n least greatest : ℕ) (bytes : List ℕ) (x : List Answered × List ℕ) → 1 ≤ n → IsBytes bytes
    → kept_at n least greatest bytes ≡ Ok x → TakesKept n least greatest bytes x
kept_takes zero least greatest bytes x some fits e = absurd (omega (arith, some))
kept_takes (suc n) least greatest bytes x some fits e = some_kept_take n least greatest bytes x fits e

-- the first of those whose ids run to the greatest one
first_low : (least greatest : ℕ) (a : Answered) (kept : List Answered) → least ≤ a.id → runs_to greatest (a.id + 1) kept ≡ true
    → least_before (length kept) least greatest ≤ a.id
first_low least greatest a [] low runs =
    let same = eqb-true (a.id + 1) (greatest + 1) runs in
    let above : max least greatest ≤ a.id = omega (arith, same, low) in
    above
first_low least greatest a (k ∷ kept) low runs = subst (λ (m : ℕ). m ≤ a.id) (sym (least_else (length kept) least greatest)) low

pub kept_again : (least greatest : ℕ) (kept : List Answered) (rest : List ℕ) → runs_to greatest least kept ≡ true
    → are_answers kept ≡ true → greatest < 2 ^ 64
    → kept_at (length kept) least greatest (flat_map answered_bytes kept ++ rest) ≡ Ok (kept, rest)
unfolding kept_at
kept_again least greatest [] rest runs all wide = refl
kept_again least greatest (a ∷ kept) rest runs all wide =
    let t = and_parts (nat_le least a.id) (runs_to greatest (a.id + 1) kept) runs in
    let s = and_parts (is_answer a) (are_answers kept) all in
    let most = few greatest (a.id + 1) kept t.1 in
    let after : List ℕ = flat_map answered_bytes kept ++ rest in
    let fits : AnsweredFits (least_before (length kept) least greatest) greatest a =
    record {
      low = first_low least greatest a kept (leb-true least a.id t.0) t.1;
      high = omega (arith, most);
      short = (answer_parts a s.0).1;
    } in
    let regrouped : flat_map answered_bytes (a ∷ kept) ++ rest ≡ answered_bytes a ++ after =
    ap (λ (x : List ℕ). x ++ rest) (flat_map-cons answered_bytes a kept)
    ∙ append_assoc (answered_bytes a) (flat_map answered_bytes kept) rest in
    ap (kept_at (suc (length kept)) least greatest) regrouped
    ∙ rw (
      answered_again (least_before (length kept) least greatest) greatest a after fits (omega (arith, most, wide)),
      kept_again (a.id + 1) greatest kept rest t.1 s.1 wide,
    ) refl

-- each is short
pub kept_short : (kept : List Answered) → are_answers kept ≡ true → All (λ a. length a.result ≤ MAX_RESULT_BYTES) kept
kept_short [] all = All-nil (λ a. length a.result ≤ MAX_RESULT_BYTES)
kept_short (a ∷ kept) all =
    let t = and_parts (is_answer a) (are_answers kept) all in
    All-cons (λ a. length a.result ≤ MAX_RESULT_BYTES) a kept (answer_parts a t.0).1 (kept_short kept t.1)
