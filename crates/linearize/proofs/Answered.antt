-- The answer is right for what was read.
use Rattle.std.proofs.Common.{◌≡◌, ◌∙◌, ◌≤◌, ℕ, Bool, List, [], ◌∷◌, ◌++◌, length, map, refl, sym, ap, subst, arith, length-append, inr}
use Rattle.std.specs.Global.{Vec}
use Rattle.std.specs.Prelude.{Option, Some, None, Result, Ok, Err, slice_get}
use Rattle.std.proofs.lemmas.Option.{slice_get_within}
use Rattle.filled_orders.proofs.Structure.{groundless_out}
use Rattle.filled_orders.specs.FilledAnswers.{IsFilledAnswer, IsFilledOrder}
use Rattle.joined_orders.specs.declared.linearized.Linearized.{Linearized}
use Rattle.joined_orders.specs.declared.linearized.Linearized.TheVariants as linearized
use Rattle.linearize.proofs.Filled.{filled_fit, legal_fits}
use Rattle.linearize.proofs.Spelled.{claims_fit, fit_front, ordered_text}
use Rattle.linearize.specs.Answering.{IsInLines, IsInOrder, IsInput, NamesOneOf}
use Rattle.linearize.specs.Answers.{IsAnswered, IsOrdered, IsRight}
use Rattle.linearize.specs.Texts.{answer_text, transcript_of}
use Rattle.linearize.specs.Writing.{IsWritable}
use Rattle.linearize.specs.declared.answer.Answer.{Answer}
use Rattle.linearize.specs.declared.answer.Answer.TheVariants as answers
use Rattle.nop_types.specs.Lines.{Line}
use Rattle.nop_types.specs.Lines as lines
use Rattle.nop_types.specs.Meaning.{Meaning}
use Rattle.nop_types.specs.declared.limits.TheConstants.{MAX_RESULT_BYTES}
use Rattle.judge.proofs.Checked.{numbered_each}
use Rattle.order_search.specs.Searching.{requests_at, told_by}
use Rattle.order_search.specs.Turns.{history_at}
use Rattle.pairs.proofs.StopLemmas.{no_order}
use Rattle.pairs.specs.Stops.{IsGroundless}
use Rattle.transcript_reader.specs.Claims.{lines_of}
use Rattle.transcript_reader.specs.Steps.{SoFar}
use Rattle.transcript_reader.specs.Transcripts.{AllFit, members, transcript_text}
use Rattle.transcript_reader.specs.declared.check_error.CheckError.{CheckError}
use Rattle.transcript_reader.specs.declared.check_error.CheckError.TheVariants as errors
use Rattle.transcript_reader.specs.declared.claim.Claim.{Claim}
use Rattle.transcript_rows.specs.LineRows.{row_of}
use Rattle.transcript_rows.specs.declared.row.Row.TheVariants.{End}
use Rattle.unknown_results.specs.Asking.{unknown_in}
use Rattle.unknown_results.specs.Filling.{HasNoOrder}
use Rattle.unnoted_reader.specs.Reading.{IsTranscript}

-- ---- places of lines

told_at_most : (o : Option Line) → length (told_by o) ≤ 1
told_at_most None = omega arith
told_at_most (Some (lines.Submit r)) = omega arith
told_at_most (Some _) = omega arith

-- places tell one request at most
pub history_short : (ls : List Line) (places : List ℕ) → length (history_at ls places) ≤ length places
history_short ls [] = omega arith
history_short ls (i ∷ places) =
    omega (arith, told_at_most (slice_get ls i), history_short ls places, length-append (requests_at ls i) (history_at ls places))

-- ---- of claims

module _ {S : Type 0} (m : Meaning S) (IsSound : S → Type 0) (opens : IsSound m.opening)
    (stays : (s : S) (op : List ℕ) → IsSound s → IsSound (m.after s op))
    (short : (s : S) (op : List ℕ) → IsSound s → length (m.answer s op) ≤ MAX_RESULT_BYTES)
    (part_of : List ℕ → List ℕ) (most_parts : ℕ) (unknown : ℕ → ℕ → Bool) (ls : List Line) (fit : AllFit (map row_of ls)) where
  text_is : (claims : Vec Claim) (places : Vec ℕ) → IsOrdered m unknown ls
      (transcript_text (transcript_of (lines_of claims.items) (history_at (lines_of claims.items) places.items)))
      → IsOrdered m unknown ls (answer_text (Ok (answers.Order claims places)))
  unfolding answer_text
  text_is claims places h = h

  in_order : (numbers : List ℕ) (most : ℕ) (claims : Vec Claim) (places : Vec ℕ) (r : Result Answer CheckError)
      → IsFilledOrder m part_of most_parts unknown ls (lines_of claims.items) places.items → IsInOrder claims places r
      → IsRight m part_of most_parts unknown ls numbers most r
  in_order numbers most claims places (Ok answer) order is =
      let few = history_short (lines_of claims.items) places.items in
      let history = history_at (lines_of claims.items) places.items in
      let fits = filled_fit unknown ls (lines_of claims.items) order.fills fit
      (legal_fits m IsSound opens stays short (lines_of claims.items) history order.legal is.bytes) in
      rw is.ok
      (text_is claims places
      (ordered_text m claims.items history fits order.legal (omega (arith, few, is.room)) unknown ls order.fills))
  in_order numbers most claims places (Err e) order is = rw is.err tt

  none_filled : (k : ℕ) → IsGroundless ls k → HasNoOrder m unknown ls
  none_filled k g filled fills = no_order m filled k (groundless_out unknown ls filled fills k g)

  pub right : (numbers : List ℕ) (most : ℕ) (claims : Vec Claim) (found : Linearized) (r : Result Answer CheckError)
      → IsFilledAnswer m part_of most_parts unknown ls (lines_of claims.items) found → IsInLines claims numbers found r
      → IsRight m part_of most_parts unknown ls numbers most r
  right numbers most claims (linearized.Order places) r h is = in_order numbers most claims places r h is
  right numbers most claims (linearized.Nothing part claim) r h is =
      rw is.2 (record { none = h.none; part_lacks = h.part_lacks; place = claim; at = is.1; accepts = h.accepts })
  right numbers most claims (linearized.Groundless claim) r h is =
      rw is.2 (refl, record { none = none_filled claim h.0; place = claim; at = is.1; groundless = h.0; first = h.1 })
  right numbers most claims (linearized.Repeated claim) r h is =
      rw is.2 (record { place = claim; at = is.1; repeats = h.0; first = h.1 })

  writable_order : (claims : Vec Claim) (places : Vec ℕ) (r : Result Answer CheckError)
      → IsFilledOrder m part_of most_parts unknown ls (lines_of claims.items) places.items → IsInOrder claims places r → IsWritable r
  writable_order claims places (Ok answer) order is =
      rw is.ok (record { submit = order.submit; few = omega (arith, is.room) })
  writable_order claims places (Err e) order is = tt

  pub writable : (numbers : List ℕ) (claims : Vec Claim) (found : Linearized) (r : Result Answer CheckError)
      → IsFilledAnswer m part_of most_parts unknown ls (lines_of claims.items) found → IsInLines claims numbers found r → IsWritable r
  writable numbers claims (linearized.Order places) r h is = writable_order claims places r h is
  writable numbers claims (linearized.Nothing part claim) r h is = rw is.2 tt
  writable numbers claims (linearized.Groundless claim) r h is = rw is.2 tt
  writable numbers claims (linearized.Repeated claim) r h is = rw is.2 tt

  pub names : (filled : List Line) (found : Linearized) (count : ℕ) → IsFilledAnswer m part_of most_parts unknown ls filled found
      → count ≡ length ls → NamesOneOf count found
  names filled (linearized.Order places) count h e = tt
  names filled (linearized.Nothing part claim) count h e = let within = h.within in omega (arith, within, e)
  names filled (linearized.Groundless claim) count h e =
      let g = h.0 in
      let within = slice_get_within ls claim (lines.Accept g.client g.id g.result) g.line in
      omega (arith, within, e)
  names filled (linearized.Repeated claim) count h e =
      let r = h.0 in
      let within = slice_get_within ls claim (lines.Submit r.second) r.second_line in
      omega (arith, within, e)

-- ---- of a source

module _ (before left : Option (List ℕ)) (s : SoFar) (marks : List Bool) (read : IsTranscript before left s marks) where
  pub input : IsInput s.said s.places
  input =
      let t = read.transcript in
      record {
        fit = subst (λ (ls : List Line). AllFit (map row_of ls)) (sym read.claims)
            (claims_fit t.events
            (fit_front t.events (t.states ++ (t.observers ++ (members 1 t.history ++ End ∷ []))) read.spells.fits.rows));
        numbered = ap length read.places ∙ numbered_each 2 t.events ∙ ap length (sym read.claims);
      }

  pub answered : {S : Type 0} (m : Meaning S) (part_of : List ℕ → List ℕ) (most_parts most : ℕ) (r : Result Answer CheckError)
      → IsRight m part_of most_parts (unknown_in marks s.said) s.said s.places most r
      → IsAnswered m part_of most_parts most before left r
  answered m part_of most_parts most (Ok answer) h = record { said = s; marks = marks; read = read; right = h }
  answered m part_of most_parts most (Err (errors.Refuted line clause)) h =
      inr (record { said = s; marks = marks; read = read; right = h })
  answered m part_of most_parts most (Err errors.ReadFault) h = absurd h
  answered m part_of most_parts most (Err errors.NoMemory) h = tt
