-- Results that were filled in fit a line.
use Rattle.std.proofs.Common.{◌≡◌, ◌≤◌, ℕ, zero, suc, Bool, List, [], ◌∷◌, length, map, Some, refl, sym, ap, subst}
use Rattle.std.specs.Prelude.{nat_le, slice_get}
use Rattle.std.proofs.lemmas.Bool.{and_parts, le-leb, and_from}
use Rattle.linearize.specs.Answering.{AllHaveBytes}
use Rattle.nop_types.specs.Histories.{answer_from}
use Rattle.nop_types.specs.Legality.{Legal}
use Rattle.nop_types.specs.Lines.{Line, Accept}
use Rattle.nop_types.specs.Meaning.{Meaning}
use Rattle.nop_types.specs.Services.{IsBytes}
use Rattle.nop_types.specs.declared.limits.TheConstants.{MAX_RESULT_BYTES}
use Rattle.nop_types.specs.declared.request.Request.{Request}
use Rattle.transcript_reader.specs.Transcripts.{AllFit}
use Rattle.transcript_rows.specs.LineRows.{row_of}
use Rattle.transcript_rows.specs.Rows.{RowFits, pair_fits}
use Rattle.transcript_rows.specs.declared.row.Row.TheVariants as rows
use Rattle.unknown_results.specs.Asking.{erased}
use Rattle.unknown_results.specs.Filling.{Fills}

-- ---- a result that is short, and bytes

pub record ResultFits (result : List ℕ) : Type 0 where
  pub short : length result ≤ MAX_RESULT_BYTES
  pub bytes : IsBytes result

abbrev pub LineFits : Line → Type 0
LineFits (Accept client id result) = ResultFits result
LineFits _ = Unit {0}

abbrev pub EachFits : List Line → Type 0
EachFits [] = Unit {0}
EachFits (l ∷ ls) = LineFits l × EachFits ls

line_fits : (l : Line) → ((client id : ℕ) (result : List ℕ) → l ≡ Accept client id result → ResultFits result) → LineFits l
line_fits (Accept client id result) f = f client id result refl
line_fits _ f = tt

pub each_fits : (ls : List Line)
    → ((k client id : ℕ) (result : List ℕ) → slice_get ls k ≡ Some (Accept client id result) → ResultFits result) → EachFits ls
each_fits [] f = tt
each_fits (l ∷ ls) f = (
  line_fits l (λ client id result e. f 0 client id result (ap (λ (x : Line). Some x) e)),
  each_fits ls (λ k client id result e. f (suc k) client id result e),
)

-- ---- lines that differ in results alone

with_result : (client id : ℕ) (a b : List ℕ) → RowFits (rows.Accept client id b) → ResultFits a → RowFits (rows.Accept client id a)
with_result client id a b fits new =
    let old = and_parts (pair_fits client id) (nat_le (length b) MAX_RESULT_BYTES) fits.ranges in
    record {
      ranges = and_from (pair_fits client id) (nat_le (length a) MAX_RESULT_BYTES) old.0 (le-leb (length a) MAX_RESULT_BYTES new.short);
      typed = (fits.typed.0, new.bytes);
    }

module _ (unknown : ℕ → ℕ → Bool) where
  one_fits : (l f : Line) → erased unknown f ≡ erased unknown l → RowFits (row_of l) → LineFits f → RowFits (row_of f)
  one_fits (Accept client id b) (Accept c i a) e fits new =
      let same_client : client ≡ c = cc in
      let same_id : id ≡ i = cc in
      with_result c i a b
      (subst (λ (x : ℕ). RowFits (rows.Accept x i b)) same_client
      (subst (λ (x : ℕ). RowFits (rows.Accept client x b)) same_id fits)) new
  one_fits (Accept client id b) f e fits new = absurd cc
  one_fits l (Accept c i a) e fits new = absurd cc
  one_fits l f e fits new = subst (λ (x : Line). RowFits (row_of x)) (sym e) fits

  pub filled_fit : (ls filled : List Line) → Fills unknown ls filled → AllFit (map row_of ls) → EachFits filled
      → AllFit (map row_of filled)
  filled_fit [] [] e fit new = tt
  filled_fit [] (f ∷ filled) e fit new = absurd cc
  filled_fit (l ∷ ls) [] e fit new = tt
  filled_fit (l ∷ ls) (f ∷ filled) e fit new =
      let first : erased unknown f ≡ erased unknown l = cc in
      let rest : map (erased unknown) filled ≡ map (erased unknown) ls = cc in
      (one_fits l f first fit.0 new.0, filled_fit ls filled rest fit.1 new.1)

-- ---- answers are short

module _ {S : Type 0} (m : Meaning S) (IsSound : S → Type 0) (opens : IsSound m.opening)
    (stays : (s : S) (op : List ℕ) → IsSound s → IsSound (m.after s op))
    (short : (s : S) (op : List ℕ) → IsSound s → length (m.answer s op) ≤ MAX_RESULT_BYTES) where
  answers_short : (s : S) (rs : List Request) (i : ℕ) (result : List ℕ) → IsSound s → answer_from m s rs i ≡ Some result
      → length result ≤ MAX_RESULT_BYTES
  answers_short s [] i result sound e = absurd cc
  answers_short s (r ∷ rs) zero result sound e =
      let same : m.answer s r.op ≡ result = cc in
      subst (λ (a : List ℕ). length a ≤ MAX_RESULT_BYTES) same (short s r.op sound)
  answers_short s (r ∷ rs) (suc i) result sound e = answers_short (m.after s r.op) rs i result (stays s r.op sound) e

  -- results of a legal history are short
  pub legal_fits : (ls : List Line) (history : List Request) → Legal m ls history → AllHaveBytes ls → EachFits ls
  legal_fits ls history legal bytes =
      each_fits ls (λ k client id result e.
      let at = legal.answered k client id result e in
      record { short = answers_short m.opening history at.place result opens at.answer; bytes = bytes k (Accept client id result) e })
