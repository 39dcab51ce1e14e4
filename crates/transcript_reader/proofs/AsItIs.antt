-- Transcripts of which each line is read as it is.
use Rattle.std.proofs.Common.{◌≡◌, ℕ, List, [], ◌∷◌, map, Bool, Option, refl, ap, subst}
use Rattle.std.specs.Prelude.{⊤}
use Rattle.std.specs.List.{flat_map}
use Rattle.transcript_reader.specs.AsRead as rows
use Rattle.transcript_reader.specs.AsRead.{texts_as}
use Rattle.transcript_reader.specs.Reading.{First, After, Place, IsAt, IsError, IsTranscript, RefusesNext, whole}
use Rattle.transcript_reader.specs.Steps.{so_far}
use Rattle.transcript_reader.specs.Transcripts.{Spells}
use Rattle.transcript_reader.specs.declared.check_error.CheckError.{CheckError}
use Rattle.transcript_reader.specs.declared.check_error.CheckError.TheVariants.{Refuted, ReadFault, NoMemory}
use Rattle.transcript_reader.specs.declared.taken.Taken.{Taken}
use Rattle.transcript_rows.specs.declared.row.Row.{Row}

each : (texts : List (List ℕ)) → map (λ (text : List ℕ). text) texts ≡ texts
each [] = refl
each (t ∷ texts) = ap (λ (ts : List (List ℕ)). t ∷ ts) (each texts)

all_texts : (texts : List (List ℕ)) → texts_as (λ (text : List ℕ). text) texts ≡ texts
all_texts [] = refl
all_texts (t ∷ texts) = ap (λ (ts : List (List ℕ)). t ∷ ts) (each texts)

next : (all : List ℕ) (was_ended : Bool) (texts : List (List ℕ)) (place : Place) (clause : ℕ)
    → rows.RefusesNext (λ (text : List ℕ). text) all was_ended texts place clause → RefusesNext all was_ended texts place clause
next all was_ended texts First clause h = h
next all was_ended texts (After s) clause h = h

pub error : (before left : Option (List ℕ)) (e : CheckError) → rows.IsError (λ (text : List ℕ). text) before left e → IsError before left e
error before left (Refuted line clause) h = record {
  all = h.all;
  ended = h.ended;
  went = h.went;
  refuses = record {
    texts = h.texts;
    place = h.place;
    at = subst (λ (ts : List (List ℕ)). IsAt ts h.place) (all_texts h.texts) h.at;
    number = h.number;
    refuses = next h.all h.ended h.texts h.place clause h.refuses;
  };
}
error before left ReadFault h = record {
  all = h.all;
  source = h.source;
  texts = h.texts;
  place = h.place;
  at = subst (λ (ts : List (List ℕ)). IsAt ts h.place) (all_texts h.texts) h.at;
  decided = h.decided;
}
error before left NoMemory h = tt

pub transcript : (before left : Option (List ℕ)) (t : Taken) (count : ℕ)
    → rows.IsTranscript (λ (text : List ℕ). text) so_far (λ (x : Taken) (texts : List (List ℕ)) (xs : List Row). ⊤) before left t count
    → IsTranscript before left (so_far t) count
transcript before left t count h = record {
  all = flat_map whole (h.first ∷ h.texts);
  went = h.went;
  whole = h.transcript;
  spells = subst (λ (ts : List (List ℕ)). Spells h.transcript (flat_map whole (h.first ∷ ts))) (each h.texts) h.spells;
  claims = h.claims;
  places = h.places;
  history = h.history;
  lines = h.lines;
}
