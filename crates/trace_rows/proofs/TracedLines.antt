-- The lines of a step are read again.
use Rattle.std.proofs.Common.{◌≡◌, ℕ, Option, Some, None, refl, sym, ap, subst, ◌∙◌, List, [], ◌∷◌, ◌++◌, append_assoc, map, codes}
use Rattle.std.specs.Prelude.{filter_map, option_map, option_to_list}
use Rattle.std.specs.List.{AllByRecursion, cons_option}
use Rattle.nop_types.specs.Given.{Given, Packet, Ticked, Submit, Read}
use Rattle.nop_types.specs.declared.input.Tick.TheVariants as ticks
use Rattle.nop_types.specs.declared.output.Actor.{Actor}
use Rattle.nop_types.specs.declared.output.Actor.TheVariants as actors
use Rattle.nop_types.specs.declared.output.Dest.{Dest}
use Rattle.nop_types.specs.declared.output.Dest.TheVariants as dests
use Rattle.nop_types.specs.declared.output.Out.{Out}
use Rattle.nop_types.specs.declared.output.Out.TheVariants as outs
use Rattle.trace_rows.specs.Rows.{GaveFits, GaveIsKept, NameFits, NameIsKept, TakenFits, TakenIsKept, ToFits, ToIsKept}
use Rattle.trace_rows.specs.Rows.{gave_fields, name_text, row_fields, row_text, row_word, taken_fields, to_text}
use Rattle.trace_rows.specs.TracedRows.{ActorFits, AreReadAgain, DestFits, GivenFits, IsReadAgain, OutFits, gave_as, in_row, name_as, out_row}
use Rattle.trace_rows.specs.TracedRows.{row_line, step_rows, taken_as, to_as}
use Rattle.trace_rows.specs.declared.row.Gave.{Gave}
use Rattle.trace_rows.specs.declared.row.Row.{Row}
use Rattle.trace_rows.specs.declared.row.Row.TheVariants.{In}
use Rattle.trace_rows.specs.declared.row.Row.TheVariants as rows
use Rattle.trace_rows.specs.declared.row.Taken.{Taken}
use Rattle.trace_rows.proofs.RowTexts.{row_read}
use Rattle.trace_text.specs.Traces.{asked_or, in_fields, in_line, in_text, out_fields, out_line, out_lines, out_text, step_lines, submitted, taken}
use Rattle.transcript_text.specs.LineText.{line_of}
use Rattle.transcript_text.specs.Transcript.{actor_text, dest_text, hex_text}

-- ---- their text

whole_line : (row : Row) → line_of (row_word row) (row_fields row) ≡ row_line row
unfolding row_text
whole_line row = rw append_assoc refl

name_same : (actor : Actor) → name_text (name_as actor) ≡ actor_text actor
name_same (actors.Replica i) = refl
name_same (actors.Sequencer i) = refl
name_same (actors.Client i) = refl
name_same (actors.Controller k) = refl
name_same (actors.Observer i) = refl

to_same : (dest : Dest) → to_text (to_as dest) ≡ dest_text dest
to_same dests.Replicas = refl
to_same dests.Sequencers = refl
to_same (dests.One actor) = name_same actor

taken_same : (x : Given) → option_map taken_fields (taken_as x) ≡ in_fields x
taken_same (Packet bytes) = refl
taken_same (Submit op) = refl
taken_same (Read observer key) = refl
taken_same (Ticked ticks.Next) = refl
taken_same (Ticked (ticks.Install sequencer)) = refl
taken_same (Ticked _) = refl

gave_same : (out : Out) → option_map gave_fields (gave_as out) ≡ out_fields out
gave_same (outs.Send dest bytes) = ap (λ (text : List ℕ). Some (codes "send" ∷ text ∷ hex_text bytes ∷ [])) (to_same dest)
gave_same (outs.Submitted r) = refl
gave_same (outs.Accepted client id result) = refl
gave_same (outs.Reading client id observer key) = refl
gave_same (outs.Answered client id observer position result) = refl
gave_same _ = refl

module _ (actor : Actor) where
  in_whole : (t : Option Taken) → option_map (in_text actor) (option_map taken_fields t) ≡ option_map row_line (option_map (In (name_as actor)) t)
  in_whole None = refl
  in_whole (Some t) =
      ap Some (ap (λ (name : List ℕ). line_of (codes "in") (name ∷ taken_fields t)) (sym (name_same actor)) ∙ whole_line (In (name_as actor) t))

  in_same : (x : Given) → in_line actor x ≡ option_map row_line (in_row actor x)
  in_same x = ap (option_map (in_text actor)) (sym (taken_same x)) ∙ in_whole (taken_as x)

  out_whole : (g : Option Gave)
      → option_map (out_text actor) (option_map gave_fields g) ≡ option_map row_line (option_map (rows.Out (name_as actor)) g)
  out_whole None = refl
  out_whole (Some g) =
      ap Some (ap (λ (name : List ℕ). line_of (codes "out") (name ∷ gave_fields g)) (sym (name_same actor))
      ∙ whole_line (rows.Out (name_as actor) g))

  out_same : (out : Out) → out_line actor out ≡ option_map row_line (out_row actor out)
  out_same out = ap (option_map (out_text actor)) (sym (gave_same out)) ∙ out_whole (gave_as out)

  first_line : (r : Option Row) (rest : List Row) → cons_option (option_map row_line r) (map row_line rest) ≡ map row_line (cons_option r rest)
  first_line None rest = refl
  first_line (Some r) rest = refl

  outs_same : (os : List Out) → out_lines actor os ≡ map row_line (filter_map (out_row actor) os)
  outs_same [] = refl
  outs_same (o ∷ os) =
      ap (λ (p : Option (List ℕ)). cons_option p (out_lines actor os)) (out_same o)
      ∙ ap (cons_option (option_map row_line (out_row actor o))) (outs_same os)
      ∙ first_line (out_row actor o) (filter_map (out_row actor) os)

  joined : (r : Option Row) (rest : List Row) → option_to_list (option_map row_line r) ++ map row_line rest ≡ map row_line (option_to_list r ++ rest)
  joined None rest = refl
  joined (Some r) rest = refl

  step_same : (x : Option Given) (os : List Out) → step_lines actor x os ≡ map row_line (step_rows actor x os)
  step_same None os = refl
  step_same (Some x) os =
      ap (λ (p : Option (List ℕ)). option_to_list p ++ out_lines actor os) (in_same x)
      ∙ ap (λ (ls : List (List ℕ)). option_to_list (option_map row_line (in_row actor x)) ++ ls) (outs_same os)
      ∙ joined (in_row actor x) (filter_map (out_row actor) os)

-- ---- their ranges

name_fits : (actor : Actor) → ActorFits actor → NameFits (name_as actor)
name_fits (actors.Replica i) fits = fits
name_fits (actors.Sequencer i) fits = fits
name_fits (actors.Client i) fits = fits
name_fits (actors.Controller k) fits = fits
name_fits (actors.Observer i) fits = fits

name_kept : (actor : Actor) → NameIsKept (name_as actor)
name_kept (actors.Replica i) = tt
name_kept (actors.Sequencer i) = tt
name_kept (actors.Client i) = tt
name_kept (actors.Controller k) = tt
name_kept (actors.Observer i) = tt

to_fits : (dest : Dest) → DestFits dest → ToFits (to_as dest)
to_fits dests.Replicas fits = tt
to_fits dests.Sequencers fits = tt
to_fits (dests.One actor) fits = name_fits actor fits

to_kept : (dest : Dest) → ToIsKept (to_as dest)
to_kept dests.Replicas = tt
to_kept dests.Sequencers = tt
to_kept (dests.One actor) = name_kept actor

-- what was submitted or asked for is in its ranges
submitted_fits : (os : List Out) → AllByRecursion OutFits os → (x : Given) → submitted os ≡ Some x → GivenFits x
submitted_fits [] all x e = absurd cc
submitted_fits (outs.Submitted r ∷ os) all x e = let same : Submit r.op ≡ x = cc in subst GivenFits same all.0.1
submitted_fits (outs.Send dest bytes ∷ os) all x e = submitted_fits os all.1 x e
submitted_fits (outs.Accepted client id result ∷ os) all x e = submitted_fits os all.1 x e
submitted_fits (outs.Busy client ∷ os) all x e = submitted_fits os all.1 x e
submitted_fits (outs.Reading client id observer key ∷ os) all x e = submitted_fits os all.1 x e
submitted_fits (outs.Answered client id observer position result ∷ os) all x e = submitted_fits os all.1 x e
submitted_fits (outs.Trimmed first entries ∷ os) all x e = submitted_fits os all.1 x e

asked_fits : (x : Given) (os : List Out) → GivenFits x → AllByRecursion OutFits os → GivenFits (asked_or x os)
asked_fits x [] fits all = fits
asked_fits x (outs.Reading client id observer key ∷ os) fits all = (all.0.1, all.0.2)
asked_fits x (outs.Send dest bytes ∷ os) fits all = asked_fits x os fits all.1
asked_fits x (outs.Submitted r ∷ os) fits all = asked_fits x os fits all.1
asked_fits x (outs.Accepted client id result ∷ os) fits all = asked_fits x os fits all.1
asked_fits x (outs.Busy client ∷ os) fits all = asked_fits x os fits all.1
asked_fits x (outs.Answered client id observer position result ∷ os) fits all = asked_fits x os fits all.1
asked_fits x (outs.Trimmed first entries ∷ os) fits all = asked_fits x os fits all.1

taken_fits : (x : Given) (os : List Out) → GivenFits x → AllByRecursion OutFits os → (y : Given) → taken x os ≡ Some y → GivenFits y
taken_fits (Ticked ticks.Next) os fits all y e = submitted_fits os all y e
taken_fits (Ticked ticks.Retry) os fits all y e =
    let same : asked_or (Ticked ticks.Retry) os ≡ y = cc in subst GivenFits same (asked_fits (Ticked ticks.Retry) os tt all)
taken_fits (Packet bytes) os fits all y e = let same : Packet bytes ≡ y = cc in subst GivenFits same fits
taken_fits (Submit op) os fits all y e = let same : Submit op ≡ y = cc in subst GivenFits same fits
taken_fits (Read observer key) os fits all y e = let same : Read observer key ≡ y = cc in subst GivenFits same fits
taken_fits (Ticked ticks.Suspect) os fits all y e = let same : Ticked ticks.Suspect ≡ y = cc in subst GivenFits same fits
taken_fits (Ticked ticks.Watch) os fits all y e = let same : Ticked ticks.Watch ≡ y = cc in subst GivenFits same fits
taken_fits (Ticked ticks.Resend) os fits all y e = let same : Ticked ticks.Resend ≡ y = cc in subst GivenFits same fits
taken_fits (Ticked ticks.Sync) os fits all y e = let same : Ticked ticks.Sync ≡ y = cc in subst GivenFits same fits
taken_fits (Ticked ticks.Probe) os fits all y e = let same : Ticked ticks.Probe ≡ y = cc in subst GivenFits same fits
taken_fits (Ticked (ticks.Install j)) os fits all y e = let same : Ticked (ticks.Install j) ≡ y = cc in subst GivenFits same fits

-- ---- each is read again

-- a row that is there is read again
abbrev ReadWhere : Option Row → Type 0
ReadWhere None = Unit {0}
ReadWhere (Some row) = IsReadAgain row

module _ (actor : Actor) (there : ActorFits actor) where
  in_again : (t : Taken) → TakenFits t → TakenIsKept t → IsReadAgain (In (name_as actor) t)
  in_again t fits kept = row_read (In (name_as actor) t) (name_fits actor there, fits) (name_kept actor, kept)

  in_row_again : (x : Given) → GivenFits x → ReadWhere (in_row actor x)
  in_row_again (Packet bytes) fits = in_again _ fits tt
  in_row_again (Submit op) fits = in_again _ fits tt
  in_row_again (Read observer key) fits = in_again _ fits tt
  in_row_again (Ticked ticks.Next) fits = tt
  in_row_again (Ticked (ticks.Install j)) fits = in_again _ fits tt
  in_row_again (Ticked ticks.Suspect) fits = in_again _ tt tt
  in_row_again (Ticked ticks.Watch) fits = in_again _ tt tt
  in_row_again (Ticked ticks.Resend) fits = in_again _ tt tt
  in_row_again (Ticked ticks.Sync) fits = in_again _ tt tt
  in_row_again (Ticked ticks.Retry) fits = in_again _ tt tt
  in_row_again (Ticked ticks.Probe) fits = in_again _ tt tt

  out_again : (g : Gave) → GaveFits g → GaveIsKept g → IsReadAgain (rows.Out (name_as actor) g)
  out_again g fits kept = row_read (rows.Out (name_as actor) g) (name_fits actor there, fits) (name_kept actor, kept)

  out_row_again : (out : Out) → OutFits out → ReadWhere (out_row actor out)
  out_row_again (outs.Send dest bytes) fits = out_again _ (to_fits dest fits.0, fits.1) (to_kept dest)
  out_row_again (outs.Submitted r) fits = out_again _ fits tt
  out_row_again (outs.Accepted client id result) fits = out_again _ fits tt
  out_row_again (outs.Reading client id observer key) fits = out_again _ fits tt
  out_row_again (outs.Answered client id observer position result) fits = out_again _ fits tt
  out_row_again (outs.Busy client) fits = tt
  out_row_again (outs.Trimmed first entries) fits = tt

  with_first : (r : Option Row) (rest : List Row) → ReadWhere r → AllByRecursion IsReadAgain rest → AllByRecursion IsReadAgain (cons_option r rest)
  with_first None rest h all = all
  with_first (Some r) rest h all = (h, all)

  outs_again : (os : List Out) → AllByRecursion OutFits os → AllByRecursion IsReadAgain (filter_map (out_row actor) os)
  outs_again [] all = tt
  outs_again (o ∷ os) all =
      with_first (out_row actor o) (filter_map (out_row actor) os) (out_row_again o all.0) (outs_again os all.1)

  behind : (r : Option Row) (rest : List Row) → ReadWhere r → AllByRecursion IsReadAgain rest → AllByRecursion IsReadAgain (option_to_list r ++ rest)
  behind None rest h all = all
  behind (Some r) rest h all = (h, all)

  step_again : (x : Option Given) (os : List Out) → ((y : Given) → x ≡ Some y → GivenFits y) → AllByRecursion OutFits os
      → AllByRecursion IsReadAgain (step_rows actor x os)
  step_again None os fits all = tt
  step_again (Some x) os fits all =
      behind (in_row actor x) (filter_map (out_row actor) os) (in_row_again x (fits x refl)) (outs_again os all)

pub traced_again : (actor : Actor) (x : Given) (os : List Out) → ActorFits actor → GivenFits x → AllByRecursion OutFits os
    → AreReadAgain actor x os
traced_again actor x os there fits all = record {
  lines = step_same actor (taken x os) os;
  read = step_again actor there (taken x os) os (taken_fits x os fits all) all;
}
