-- A check of what a run wrote passes it.
use Rattle.std.proofs.Common.{◌≡◌, ◌∙◌, ℕ, ◌+◌, true, List, [], ◌∷◌, ◌++◌, length, refl, sym, ap, subst, append-nil, arith}
use Rattle.std.proofs.Common.{Bool, false, Option, Some, None}
use Rattle.std.specs.Prelude.{◌↔◌, cond, count_by, Result, Ok, Err}
use Rattle.std.proofs.lemmas.List.{append_cancel_left}
use Rattle.std.proofs.lemmas.List.Sums.{sum_by-cons}
use Rattle.judge.proofs.LineRows.{rows_claim, runs_are_judged}
use Rattle.judge.specs.Checking.{IsChecked, IsTallyOf, IsLegalText, IsPassed, PassesLegal, submits, accepts}
use Rattle.judge.specs.Saying.{claiming, claims_something}
use Rattle.judge.specs.declared.tally.Tally.{Tally}
use Rattle.nop_types.specs.Checkpoints.{KeepsTo}
use Rattle.nop_types.specs.declared.header.Header.{Header}
use Rattle.nop_types.specs.Legality.{Legal}
use Rattle.nop_types.specs.Lines as lines
use Rattle.nop_types.specs.Lines.{Line}
use Rattle.nop_types.specs.Meaning.{Meaning}
use Rattle.nop_types.specs.Services.{AnswersAreBytes}
use Rattle.schedule_text.proofs.Fitting.{headers_fit}
use Rattle.transcript_reader.proofs.Spellings.{read_in_one_way}
use Rattle.transcript_reader.specs.Transcripts.{Transcript, Spells, said}
use Rattle.transcript_reader.specs.declared.check_error.CheckError.{CheckError}
use Rattle.transcript_reader.specs.declared.check_error.CheckError.TheVariants as errors
use Rattle.world.specs.WorldSteps.{Happened, opening, history}
use Rattle.replay.specs.Output.{Schedule, output}
use Rattle.replay.specs.Safety.{RunsSafely}
use Rattle.judged_runs.proofs.Ops.{AreRead, schedule_read}
use Rattle.judged_runs.proofs.Spelled.{run_spells}
use Rattle.judged_runs.proofs.Texts.{spelled_has_room}
use Rattle.judged_runs.specs.Passing.{PassesRun, RunsPass}
use Rattle.judged_runs.specs.Runs.{HasRoom, IsLegalRun, transcript_of}

-- ---- the text of a run is a legal transcript

module _ {S : Type 0} (m : Meaning S) (IsSound : S → Type 0) (keeps : KeepsTo m IsSound) (answers : AnswersAreBytes m)
    (bytes : List ℕ) (ran : RunsSafely m bytes) where
  read : AreRead ran.events
  read = subst AreRead (ap (λ (s : Schedule). s.events) ran.are) (schedule_read m ran.header.config (opening ran.header.config) 1 ran.rest)

  said_is_legal : Legal m (said (transcript_of ran.header ran.happened)) (history ran.happened.world)
  said_is_legal =
      (runs_are_judged m ran.happened.lines (history ran.happened.world)).1 ran.safely.safe.legal

  legal_with_room : HasRoom (output m true bytes).text → IsLegalRun m ran.header ran.happened (output m true bytes).text
  legal_with_room room =
      subst (IsLegalRun m ran.header ran.happened) (sym ran.text) (
      record {
        spells = run_spells m IsSound keeps answers ran.header (headers_fit ran.first ran.header ran.read) ran.events read ran.happened
            ran.led ran.safely (subst HasRoom ran.text room);
        legal = said_is_legal;
      }
      )

  pub runs_are_legal : HasRoom (output m true bytes).text ↔ IsLegalRun m ran.header ran.happened (output m true bytes).text
  runs_are_legal =
      (legal_with_room, λ legal. spelled_has_room (transcript_of ran.header ran.happened) (output m true bytes).text legal.spells)

-- ---- what is counted

add_none : (n : ℕ) → 0 + n ≡ n
add_none n = omega arith

counted : (p : Line → Bool) (x : Line) (ls : List Line) → count_by p (x ∷ ls) ≡ cond (p x) 1 0 + count_by p ls
counted p x ls = sum_by-cons (λ (l : Line). cond (p l) 1 0) x ls

-- a line more, of which the claims have it too or it is not counted
claims_more : (p : Line → Bool) (x : Line) (ls : List Line) → (claims_something x ≡ false → p x ≡ false)
    → count_by p (claiming ls) ≡ count_by p ls → count_by p (claiming (x ∷ ls)) ≡ count_by p (x ∷ ls)
claims_more p x ls silent e = on (claims_something x) refl
  where
    on : (b : Bool) → claims_something x ≡ b → count_by p (cond b (x ∷ claiming ls) (claiming ls)) ≡ count_by p (x ∷ ls)
    on true is = counted p x (claiming ls) ∙ ap (λ (n : ℕ). cond (p x) 1 0 + n) e ∙ sym (counted p x ls)
    on false is =
        let none : count_by p (x ∷ ls) ≡ count_by p ls =
        counted p x ls ∙ ap (λ (b : Bool). cond b 1 0 + count_by p ls) (silent is) ∙ add_none (count_by p ls) in
        e ∙ sym none

submits_silent : (x : Line) → claims_something x ≡ false → submits x ≡ false
submits_silent (lines.Submit r) e = absurd cc
submits_silent _ e = refl

accepts_silent : (x : Line) → claims_something x ≡ false → accepts x ≡ false
accepts_silent (lines.Accept client id result) e = absurd cc
accepts_silent _ e = refl

claims_count : (p : Line → Bool) → ((x : Line) → claims_something x ≡ false → p x ≡ false) → (ls : List Line)
    → count_by p (claiming ls) ≡ count_by p ls
claims_count p silent [] = refl
claims_count p silent (x ∷ ls) = claims_more p x ls (silent x) (claims_count p silent ls)

-- a transcript that says what the run says has its counts
run_tally : (d : Header) (h : Happened) (t : Transcript) (text : List ℕ) (tally : Tally) → Spells t text
    → Spells (transcript_of d h) text → IsTallyOf (said t) t.history tally → IsTallyOf h.lines (history h.world) tally
run_tally d h t text tally spells run counts =
    let same = read_in_one_way t (transcript_of d h) text spells run in
    let claims : said t ≡ claiming h.lines = same.claims ∙ rows_claim h.lines in
    record {
      submits = counts.submits ∙ ap (count_by submits) claims ∙ claims_count submits submits_silent h.lines;
      accepts = counts.accepts ∙ ap (count_by accepts) claims ∙ claims_count accepts accepts_silent h.lines;
      members = counts.members ∙ ap length same.history;
    }

-- ---- the two programs

module _ {S : Type 0} (m : Meaning S) (d : Header) (h : Happened) (text : List ℕ) (legal : IsLegalRun m d h text) where
  legal_text : IsLegalText m text
  legal_text = record { whole = transcript_of d h; spells = legal.spells; legal = legal.legal }

  passed_counts : (rest : Option (List ℕ)) (tally : Tally) → IsPassed m (Some text) rest tally → IsTallyOf h.lines (history h.world) tally
  passed_counts None tally p = absurd p.went.source
  passed_counts (Some more) tally p =
      let same : text ≡ p.all = p.went.source ∙ ap (λ (xs : List ℕ). p.all ++ xs) (p.went.end refl) ∙ append-nil p.all in
      run_tally d h p.text.whole text tally (subst (Spells p.text.whole) (sym same) p.text.spells) legal.spells p.counts

  check_passes : (rest : Option (List ℕ)) (r : Result Tally CheckError) → IsChecked m (Some text) rest r → PassesLegal m (Some text) r
      → PassesRun h r
  check_passes rest (Ok tally) checked passes = passed_counts rest tally checked
  check_passes rest (Err (errors.Refuted line clause)) checked passes = passes legal_text
  check_passes rest (Err errors.ReadFault) checked passes = tt
  check_passes rest (Err errors.NoMemory) checked passes = tt

module _ {S : Type 0} (m : Meaning S) (IsSound : S → Type 0) (keeps : KeepsTo m IsSound) (answers : AnswersAreBytes m) where
  pub replayed_runs_pass : RunsPass m
  replayed_runs_pass bytes before text None done replayed ran room rest r checked passes = absurd replayed
  replayed_runs_pass bytes before text (Some more) done replayed ran room rest r checked passes =
      let all : List ℕ = (output m true bytes).text in
      let same : text ≡ all = append_cancel_left before text all replayed.wrote in
      let legal : IsLegalRun m ran.header ran.happened all =
      (runs_are_legal m IsSound keeps answers bytes ran).0 (subst HasRoom same room) in
      check_passes m ran.header ran.happened text (subst (IsLegalRun m ran.header ran.happened) (sym same) legal) rest r checked passes
