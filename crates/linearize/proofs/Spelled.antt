-- What is written where an order is found spells a transcript of the same claims.
use Rattle.std.proofs.Common.{◌≡◌, ◌∙◌, ◌+◌, ◌<◌, ◌≤◌, ◌^◌, ℕ, zero, suc, Bool, List, [], ◌∷◌, ◌++◌, length, map, refl, sym, ap}
use Rattle.std.proofs.Common.{arith, append_assoc, append-nil, length-append, subst}
use Rattle.std.specs.Prelude.{Err, Ok, OnOk, Result, Some, nat_le, slice_get}
use Rattle.std.specs.List.{flat_map}
use Rattle.std.proofs.lemmas.List.{length-map}
use Rattle.std.proofs.lemmas.Bool.{le-leb, and_from}
use Rattle.lemmas.proofs.Members.{Has-first, Has-rest}
use Rattle.linearize.specs.Answers.{IsOrdered}
use Rattle.linearize.specs.Texts.{header, transcript_of}
use Rattle.nop_types.specs.Legality.{Legal}
use Rattle.nop_types.specs.Lines.{Line}
use Rattle.nop_types.specs.Lines as lines
use Rattle.nop_types.specs.Lists.{Has}
use Rattle.nop_types.specs.Meaning.{Meaning}
use Rattle.nop_types.specs.declared.request.Request.{Request}
use Rattle.judge.proofs.Checked.{member_count}
use Rattle.transcript_reader.specs.Claims.{line_of, lines_of}
use Rattle.transcript_reader.specs.Transcripts.{AllFit, Spells, Transcript, body, members, said_by, transcript_lines, transcript_text}
use Rattle.transcript_reader.specs.declared.claim.Claim.{Claim}
use Rattle.transcript_reader.specs.declared.claim.Claim.TheVariants.{Submitted, Accepted}
use Rattle.transcript_reader.specs.declared.limits.TheConstants.{MAX_TRANSCRIPT_LINES}
use Rattle.transcript_reader.proofs.Events.{fit_both, all_events}
use Rattle.transcript_rows.proofs.LineRows.{line_as_row, end_as_row}
use Rattle.transcript_rows.specs.LineRows.{row_of}
use Rattle.transcript_rows.specs.Rows.{RowFits, request_fits, row_text}
use Rattle.transcript_rows.specs.declared.row.Row.{Row}
use Rattle.transcript_rows.specs.declared.row.Row.TheVariants.{Submit, Accept, Member, End}
use Rattle.unknown_results.specs.Asking.{erased}
use Rattle.unknown_results.specs.Filling.{Fills}
use Rattle.transcript_text.specs.Transcript.{end_line, line_text, lines_text, transcript_line}

-- ---- rows that fit

pub fit_front : (xs ys : List Row) → AllFit (xs ++ ys) → AllFit xs
fit_front [] ys f = tt
fit_front (x ∷ xs) ys f = (f.0, fit_front xs ys f.1)

-- a row and what it claims
fit_one : (row : Row) → RowFits row → AllFit (map row_of (said_by row))
fit_one (Submit request) f = (f, tt)
fit_one (Accept client id result) f = (f, tt)
fit_one _ f = tt

map_both : (xs ys : List Line) → map row_of (xs ++ ys) ≡ map row_of xs ++ map row_of ys
map_both [] ys = refl
map_both (x ∷ xs) ys = ap (λ (rows : List Row). row_of x ∷ rows) (map_both xs ys)

-- what fitting rows claim fits
pub claims_fit : (rows : List Row) → AllFit rows → AllFit (map row_of (flat_map said_by rows))
claims_fit [] f = tt
claims_fit (row ∷ rows) f =
    rw (map_both (said_by row) (flat_map said_by rows))
    (fit_both (map row_of (said_by row)) (map row_of (flat_map said_by rows)) (fit_one row f.0) (claims_fit rows f.1))

fits_at : (claims : List Line) (i : ℕ) (line : Line) → AllFit (map row_of claims) → slice_get claims i ≡ Some line → RowFits (row_of line)
fits_at [] i line f e = absurd cc
fits_at (c ∷ claims) zero line f e = let same : c ≡ line = cc in subst (λ (l : Line). RowFits (row_of l)) same f.0
fits_at (c ∷ claims) (suc i) line f e = fits_at claims i line f.1 e

member_fits : (place : ℕ) (r : Request) → 1 ≤ place → place < 2 ^ 32 → RowFits (Submit r) → RowFits (Member place r)
member_fits place r low high f =
    record { ranges = and_from (nat_le 1 place) (request_fits r) (le-leb 1 place low) f.ranges; typed = (high, f.typed) }

members_fit : (place : ℕ) (history : List Request) → 1 ≤ place → place + length history ≤ 2 ^ 32
    → ((r : Request) → Has history r → RowFits (Submit r)) → AllFit (members place history)
members_fit place [] low room all = tt
members_fit place (r ∷ history) low room all = (
  member_fits place r low (omega (arith, room)) (all r (Has-first r r history refl)),
  members_fit (place + 1) history (omega arith) (omega (arith, room)) (λ x h. all x (Has-rest x r history h)),
)

-- ---- what is said

-- claims say themselves
said_again : (claims : List Claim) → flat_map said_by (map row_of (lines_of claims)) ≡ lines_of claims
said_again [] = refl
said_again (Submitted r ∷ claims) = ap (λ (ls : List Line). lines.Submit r ∷ ls) (said_again claims)
said_again (Accepted client id result ∷ claims) = ap (λ (ls : List Line). lines.Accept client id result ∷ ls) (said_again claims)

-- ---- the text

line_count : (claims : List Line) (history : List Request)
    → length (transcript_lines (transcript_of claims history)) ≡ length claims + length history + 2
line_count claims history =
    omega (
      arith,
      length-map (body (transcript_of claims history)) row_text,
      length-map claims row_of,
      length-append (map row_of claims) (members 1 history ++ End ∷ []),
      length-append (members 1 history) (End ∷ []),
      member_count 1 history,
    )

module _ {S : Type 0} (m : Meaning S) (claims : List Claim) (history : List Request) where
  abbrev whole : Transcript
  whole = transcript_of (lines_of claims) history

  module _ (fit : AllFit (map row_of (lines_of claims))) (legal : Legal m (lines_of claims) history)
      (room : length claims + length history + 2 ≤ MAX_TRANSCRIPT_LINES) where
    submitted_fit : (r : Request) → Has history r → RowFits (Submit r)
    submitted_fit r h = let there = legal.submitted r h in fits_at (lines_of claims) there.0 (lines.Submit r) fit there.1

    whole_spells : Spells whole (transcript_text whole)
    whole_spells = record {
      text = refl;
      fits = record {
        header = refl;
        events = all_events (lines_of claims);
        states = refl;
        observers = refl;
        rows = fit_both (map row_of (lines_of claims)) (members 1 history ++ End ∷ []) fit
            (fit_both (members 1 history) (End ∷ []) (members_fit 1 history (omega arith) (omega (arith, room)) submitted_fit)
            (record { ranges = refl; typed = tt }, tt));
      };
      most = omega (arith, room, line_count (lines_of claims) history, length-map claims line_of);
    }

    -- the text is a legal one, and says these claims, which differ from others in unknown results alone
    pub ordered_text : (unknown : ℕ → ℕ → Bool) (ls : List Line) → Fills unknown ls (lines_of claims)
        → IsOrdered m unknown ls (transcript_text whole)
    ordered_text unknown ls fills = record {
      legal = record {
        whole = whole;
        spells = whole_spells;
        legal = subst (λ (ls : List Line). Legal m ls history) (sym (said_again claims)) legal;
      };
      fills = ap (map (erased unknown)) (said_again claims) ∙ fills;
    }

-- ---- what is written, piece by piece

abbrev pub joined : List Row → List ℕ
joined rows = flat_map (λ line. line) (map row_text rows)

claims_first : (claims : List Line) (rest : List Row) → joined (map row_of claims ++ rest) ≡ lines_text claims ++ joined rest
claims_first [] rest = refl
claims_first (c ∷ claims) rest =
    ap (λ (t : List ℕ). row_text (row_of c) ++ t) (claims_first claims rest)
    ∙ ap (λ (t : List ℕ). t ++ (lines_text claims ++ joined rest)) (line_as_row c)
    ∙ sym (append_assoc (line_text c) (lines_text claims) (joined rest))

rows_first : (rows rest : List Row) → joined (rows ++ rest) ≡ flat_map row_text rows ++ joined rest
rows_first [] rest = refl
rows_first (r ∷ rows) rest =
    ap (λ (t : List ℕ). row_text r ++ t) (rows_first rows rest)
    ∙ sym (append_assoc (row_text r) (flat_map row_text rows) (joined rest))

end_last : joined (End ∷ []) ≡ end_line
end_last = append-nil (row_text End) ∙ end_as_row

-- the first line, the claims, the history and the last line
pub written : (claims : List Line) (history : List Request)
    → transcript_text (transcript_of claims history)
    ≡ transcript_line header.form header.config
    ++ (lines_text claims ++ (flat_map row_text (members 1 history) ++ end_line))
written claims history =
    let behind : joined (members 1 history ++ End ∷ []) ≡ flat_map row_text (members 1 history) ++ end_line =
    rows_first (members 1 history) (End ∷ []) ∙ ap (λ (t : List ℕ). flat_map row_text (members 1 history) ++ t) end_last in
    let all : joined (body (transcript_of claims history)) ≡ lines_text claims ++ (flat_map row_text (members 1 history) ++ end_line) =
    claims_first claims (members 1 history ++ End ∷ []) ∙ ap (λ (t : List ℕ). lines_text claims ++ t) behind in
    ap (λ (t : List ℕ). transcript_line header.form header.config ++ t) all

-- these four, one after the other
pub all_written : {T E : Type 0} (claims : List Line) (history : List Request) (a b c d e : List ℕ) (r : Result T E)
    → b ≡ a ++ transcript_line header.form header.config → c ≡ b ++ lines_text claims → d ≡ c ++ flat_map row_text (members 1 history)
    → OnOk r (e ≡ d ++ end_line) → OnOk r (e ≡ a ++ transcript_text (transcript_of claims history))
all_written claims history a b c d e (Ok t) first second third last =
    let all : e ≡ a ++ transcript_line header.form header.config ++ lines_text claims ++ flat_map row_text (members 1 history) ++ end_line = cc in
    let split : e ≡ a ++ (transcript_line header.form header.config
    ++ (lines_text claims ++ (flat_map row_text (members 1 history) ++ end_line))) = simp append_assoc at all in
    split ∙ ap (λ (t : List ℕ). a ++ t) (sym (written claims history))
all_written claims history a b c d e (Err x) first second third last = tt
