-- A replay goes on line by line, and ends.
use Rattle.std.proofs.Common.{◌≡◌, ◌≢◌, ℕ, List, [], ◌++◌, Bool, true, false, Option, Some, None, Result, Ok, Err, refl, sym, ap, ◌∙◌}
use Rattle.std.proofs.Common.{append_assoc}
use Rattle.std.proofs.KnownBytes.{Appends-trans}
use Rattle.std.proofs.lemmas.List.{append-nil}
use Rattle.nop_types.specs.Configuration.{Configuration}
use Rattle.nop_types.specs.declared.header.Header.{Header}
use Rattle.nop_types.specs.Meaning.{Meaning}
use Rattle.outside.specs.Prefixes.{AppendsPrefix}
use Rattle.schedule_text.specs.declared.event.Event.{Event}
use Rattle.schedule_text.specs.declared.next_error.NextError.{NextError}
use Rattle.schedule_text.specs.declared.next_error.NextError.TheVariants as nexts
use Rattle.schedule_text.specs.Reading.{Reading, Turn, Takes, TakesOf, IsTurn, LeavesNone, MayFollow, turn, turn_of, lines_before}
use Rattle.transcript_text.specs.Transcript.{lines_text}
use Rattle.world.specs.Ending.{final_text}
use Rattle.world.specs.WorldSteps.{WorldState, Refusal, Happened, step}
use Rattle.replay.specs.declared.error.ReplayError.{ReplayError}
use Rattle.replay.specs.declared.error.ReplayError.TheVariants as errors
use Rattle.replay.specs.Output.{BadLine, Output, bad_text, refused_line, ending, then_text, rest, output}
use Rattle.replay.specs.Outcome.{EndsWith}
use Rattle.replay.specs.Progress.{Progress, Going, GoingOf, refused, after_step, after_turn, after_answer}
use Rattle.replay.specs.Steps.{Fails, Misses, Writes, Refuses, Interrupts, Stops, Advances, RefusesStep, bad_line}
use Rattle.replay.proofs.Prefixes.{prefix_nil, prefix_behind, prefix_longer, up_to_then}
use Rattle.replay.proofs.Texts.{rest_some, after_turn_some, output_some}
use Rattle.replay.proofs.Runs.{rest_is, turn_header}

module _ {S : Type 0} (m : Meaning S) where
  -- what is written for the whole input
  pub whole : (bytes left : List ℕ) (before now : Option (List ℕ)) (pending : List ℕ) (r : Reading) (follows : Bool → List ℕ → Output)
      (p : Progress m bytes left before now pending r follows) → output m true bytes ≡ then_text (p.written ++ pending) (follows true left)
  whole bytes left before now pending r follows p = rw p.split (p.goes true left (record { nothing = p.end; end = λ e. refl }))

  -- where something is left of what follows, something is left of the whole output
  pub parts : (bytes left : List ℕ) (before now after : Option (List ℕ)) (pending : List ℕ) (r : Reading)
      (follows : Bool → List ℕ → Output) (t u : List ℕ)
      → Progress m bytes left before now pending r follows → (follows true left).text ≡ t ++ u
      → AppendsPrefix now after ((pending ++ t) ++ u) → AppendsPrefix before after (output m true bytes).text
  parts bytes left before now after pending r follows t u p is f =
      let all = prefix_behind before now after p.written ((pending ++ t) ++ u) p.wrote f in
      let text : (output m true bytes).text ≡ p.written ++ ((pending ++ t) ++ u) =
      ap (λ (o : Output). o.text) (whole bytes left before now pending r follows p)
      ∙ ap (λ (s : List ℕ). (p.written ++ pending) ++ s) is
      ∙ append_assoc p.written pending (t ++ u)
      ∙ ap (λ (s : List ℕ). p.written ++ s) (sym (append_assoc pending t u)) in
      rw text all

  -- not all of what is gathered and follows was written
  pub misses_with : (bytes left : List ℕ) (before now after : Option (List ℕ)) (pending : List ℕ) (r : Reading)
      (follows : Bool → List ℕ → Output) (t u : List ℕ) (e : ReplayError)
      → Progress m bytes left before now pending r follows → (follows true left).text ≡ t ++ u → Misses now after (pending ++ t) e
      → EndsWith m (Some bytes) (Some left) before after (Err e)
  misses_with bytes left before now after pending r follows t u (errors.Malformed line rule) p is f = absurd f
  misses_with bytes left before now after pending r follows t u errors.ReadFault p is f = absurd f
  misses_with bytes left before now after pending r follows t u errors.WriteFault p is f =
      parts bytes left before now after pending r follows t u p is (prefix_longer now after (pending ++ t) u f)
  misses_with bytes left before now after pending r follows t u errors.NoMemory p is f =
      parts bytes left before now after pending r follows t u p is (prefix_longer now after (pending ++ t) u f)

  -- a front was written, and more follows
  pub fails_with : (bytes left : List ℕ) (before now after : Option (List ℕ)) (pending : List ℕ) (r : Reading)
      (follows : Bool → List ℕ → Output) (t u : List ℕ) (e : ReplayError)
      → Progress m bytes left before now pending r follows → (follows true left).text ≡ t ++ u → u ≢ [] → Fails now after (pending ++ t) e
      → EndsWith m (Some bytes) (Some left) before after (Err e)
  fails_with bytes left before now after pending r follows t u (errors.Malformed line rule) p is some f = absurd f
  fails_with bytes left before now after pending r follows t u errors.ReadFault p is some f = absurd f
  fails_with bytes left before now after pending r follows t u errors.WriteFault p is some f =
      parts bytes left before now after pending r follows t u p is (up_to_then now after (pending ++ t) u some f)
  fails_with bytes left before now after pending r follows t u errors.NoMemory p is some f =
      parts bytes left before now after pending r follows t u p is (up_to_then now after (pending ++ t) u some f)

  -- the rest of the output is an error line
  pub refuses_with : (bytes left : List ℕ) (before now after : Option (List ℕ)) (pending : List ℕ) (r : Reading)
      (follows : Bool → List ℕ → Output) (b : BadLine) (e : ReplayError)
      → Progress m bytes left before now pending r follows
      → ((more : List ℕ) → (r.ended ≡ true → more ≡ []) → follows true more ≡ refused b) → (r.ended ≡ true → left ≡ [])
      → Refuses now after pending b e → EndsWith m (Some bytes) (Some left) before after (Err e)
  refuses_with bytes left before now after pending r follows b (errors.Malformed line rule) p is end (line_is, rule_is, wrote) =
      record {
        taken = p.taken;
        split = p.split;
        ended = r.ended;
        end = end;
        bad = b;
        line_is = line_is;
        rule_is = rule_is;
        text = p.written ++ (pending ++ bad_text b);
        decides = λ more none.
            p.goes true more (record { nothing = none; end = λ e. refl })
            ∙ ap (then_text (p.written ++ pending)) (is more none)
            ∙ ap (λ (t : List ℕ). record { text = t; bad = Some b }) (append_assoc p.written pending (bad_text b));
        wrote = Appends-trans before now after p.written (pending ++ bad_text b) p.wrote wrote;
      }
  refuses_with bytes left before now after pending r follows b errors.ReadFault p is end f = absurd f
  refuses_with bytes left before now after pending r follows b errors.WriteFault p is end f =
      misses_with bytes left before now after pending r follows (bad_text b) [] errors.WriteFault p
      (ap (λ (o : Output). o.text) (is left end) ∙ sym (append-nil (bad_text b))) f
  refuses_with bytes left before now after pending r follows b errors.NoMemory p is end f =
      misses_with bytes left before now after pending r follows (bad_text b) [] errors.NoMemory p
      (ap (λ (o : Output). o.text) (is left end) ∙ sym (append-nil (bad_text b))) f

  -- nothing is decided behind what was taken
  pub interrupts_with : (bytes left : List ℕ) (before now after : Option (List ℕ)) (pending : List ℕ) (r : Reading)
      (follows : Bool → List ℕ → Output) (e : ReplayError)
      → Progress m bytes left before now pending r follows → r.ended ≡ false → follows false [] ≡ record { text = []; bad = None }
      → Interrupts now after pending e → EndsWith m (Some bytes) (Some left) before after (Err e)
  interrupts_with bytes left before now after pending r follows (errors.Malformed line rule) p going is f = absurd f
  interrupts_with bytes left before now after pending r follows errors.ReadFault p going is f =
      let all : output m false p.taken ≡ record { text = (p.written ++ pending) ++ []; bad = None } =
      ap (output m false) (sym (append-nil p.taken))
      ∙ p.goes false [] (record { nothing = λ e. refl; end = λ e. absurd cc })
      ∙ ap (then_text (p.written ++ pending)) is in
      record {
        taken = p.taken;
        split = p.split;
        good = ap (λ (o : Output). o.bad) all;
        wrote = rw (all, append-nil (p.written ++ pending)) (Appends-trans before now after p.written pending p.wrote f);
      }
  interrupts_with bytes left before now after pending r follows errors.WriteFault p going is f =
      misses_with bytes left before now after pending r follows [] (follows true left).text errors.WriteFault p refl
      (rw (append-nil pending) f)
  interrupts_with bytes left before now after pending r follows errors.NoMemory p going is f =
      misses_with bytes left before now after pending r follows [] (follows true left).text errors.NoMemory p refl
      (rw (append-nil pending) f)

  -- the input has ended
  pub finishes : (bytes left : List ℕ) (before now after : Option (List ℕ)) (pending : List ℕ) (r : Reading)
      (follows : Bool → List ℕ → Output) (w : WorldState) (x : Result (Unit {0}) ReplayError)
      → Progress m bytes left before now pending r follows → r.ended ≡ true
      → ((more : List ℕ) → follows true more ≡ record { text = ending true w None; bad = None })
      → Writes now after (pending ++ final_text w) x → EndsWith m (Some bytes) (Some left) before after x
  finishes bytes left before now after pending r follows w (Ok x) p ended is f =
      let all = whole bytes left before now pending r follows p ∙ ap (then_text (p.written ++ pending)) (is left) in
      let text : (output m true bytes).text ≡ p.written ++ (pending ++ final_text w) =
      ap (λ (o : Output). o.text) all ∙ append_assoc p.written pending (final_text w) in
      record {
        all = p.end ended;
        good = ap (λ (o : Output). o.bad) all;
        wrote = rw text (Appends-trans before now after p.written (pending ++ final_text w) p.wrote f);
      }
  finishes bytes left before now after pending r follows w (Err e) p ended is f =
      misses_with bytes left before now after pending r follows (final_text w) [] e p
      (ap (λ (o : Output). o.text) (is left) ∙ sym (append-nil (final_text w))) f

  -- ---- a turn of the reader

  pub turned : (c : Configuration) (w : WorldState) (ended : Bool) (more : List ℕ) (r : Reading)
      (answer : Result (Option Event) NextError) (t : Turn) → IsTurn r ended more answer t
      → after_turn m ended c w t ≡ after_answer m ended more c w r answer
  turned c w ended more r (Ok (Some e)) t is = ap (after_turn m ended c w) is
  turned c w ended more r (Ok None) t is = ap (after_turn m ended c w) is.0
  turned c w ended more r (Err (nexts.BadLine line rule)) t is =
      ap (after_turn m ended c w) is.0 ∙ ap (λ (l : ℕ). refused (bad_line l rule)) (sym is.1)
  turned c w ended more r (Err nexts.ReadFault) t is = ap (after_turn m ended c w) is
  turned c w ended more r (Err nexts.NoMemory) t is = ap (after_turn m ended c w) is

  -- the end of the source, told by one of two readings
  pub end_of : (r s : Reading) (left rest taken : List ℕ) (answer : Result (Option Event) NextError) (b : Bool) → r.ended ≡ b
      → (r.ended ≡ true → left ≡ []) → left ≡ taken ++ rest
      → Takes r s taken rest answer → s.ended ≡ true → rest ≡ []
  end_of r s left rest taken answer false is end split k ended = k.end is ended
  end_of r s left rest taken answer true is end split k ended =
      sym (sym (end is) ∙ split ∙ ap (λ (t : List ℕ). t ++ rest) ((k.after_end is).0))

  pub may_follow : (r s : Reading) (rest taken more : List ℕ) (ended : Bool) (answer : Result (Option Event) NextError)
      → Takes r s taken rest answer → MayFollow s ended more → MayFollow r ended (taken ++ more)
  may_follow r s rest taken more ended answer k may =
      record {
        nothing = λ e. ap (λ (t : List ℕ). t ++ more) ((k.after_end e).0) ∙ may.nothing ((k.after_end e).1);
        end = λ e. may.end ((k.after_end e).1);
      }

  pub answered : (bytes left rest_left : List ℕ) (before now : Option (List ℕ)) (pending : List ℕ) (r s : Reading) (h : Header)
      (w : WorldState) (answer : Result (Option Event) NextError)
      → Going m bytes left before now pending r h w → (taken : List ℕ) → left ≡ taken ++ rest_left → Takes r s taken rest_left answer
      → Progress m bytes rest_left before now pending s (λ ended more. after_answer m ended more h.config w s answer)
  answered bytes left rest_left before now pending r s h w answer going taken split k =
      let p = going.progress in
      record {
        taken = p.taken ++ taken;
        split = p.split ∙ ap (λ (l : List ℕ). p.taken ++ l) split ∙ sym (append_assoc p.taken taken rest_left);
        end = end_of r s left rest_left taken answer r.ended refl p.end split k;
        written = p.written;
        wrote = p.wrote;
        goes = λ ended more may.
            let lines = lines_before r ended (taken ++ more) in
            ap (output m ended) (append_assoc p.taken taken more)
            ∙ p.goes ended (taken ++ more) (may_follow r s rest_left taken more ended answer k may)
            ∙ ap (then_text (p.written ++ pending))
            (rest_is m ended h w r.line lines
            ∙ ap (λ (o : Option Header). after_turn m ended h.config w (turn o r.line lines)) (sym going.header)
            ∙ turned h.config w ended more s answer (turn r.header r.line lines) (k.turn ended more may));
      }

  pub all_ended : (r : Reading) → MayFollow r true []
  all_ended r = record { nothing = λ e. refl; end = λ e. refl }

  pub none_follow : (r : Reading) → r.ended ≡ false → MayFollow r false []
  none_follow r going = record { nothing = λ e. refl; end = λ e. absurd cc }

  pub turn_keeps : (r : Reading) (h : Header) (ended : Bool) (more : List ℕ) → r.header ≡ Some h
      → (turn_of r ended more).header ≡ Some h
  turn_keeps r h ended more is =
      ap (λ (o : Option Header). (turn o r.line (lines_before r ended more)).header) is
      ∙ turn_header h r.line (lines_before r ended more)

  pub event_keeps : (r s : Reading) (h : Header) (taken left : List ℕ) (e : Event) → r.header ≡ Some h
      → Takes r s taken left (Ok (Some e)) → s.header ≡ Some h
  event_keeps r s h taken left e is k =
      sym (ap (λ (t : Turn). t.header) (k.turn true [] (all_ended s))) ∙ turn_keeps r h true (taken ++ []) is

  -- nothing is decided
  pub nothing_left : (h : Header) (w : WorldState) (o : Option Header) (line : ℕ) → (turn o line []).header ≡ Some h
      → after_turn m false h.config w (turn o line []) ≡ record { text = []; bad = None }
  nothing_left h w None line is = absurd cc
  nothing_left h w (Some d) line is = refl

  pub fault_follows : (r s : Reading) (h : Header) (w : WorldState) (taken left : List ℕ) → r.header ≡ Some h
      → Takes r s taken left (Err nexts.ReadFault) → LeavesNone s (Err nexts.ReadFault)
      → after_turn m false h.config w (turn_of s false []) ≡ record { text = []; bad = None }
  fault_follows r s h w taken left is k none =
      let kept : (turn_of s false []).header ≡ Some h =
      sym (ap (λ (t : Turn). t.header) (k.turn false [] (none_follow s none.0))) ∙ turn_keeps r h false (taken ++ []) is in
      ap (λ (ls : List (List ℕ)). after_turn m false h.config w (turn s.header s.line ls)) none.1
      ∙ nothing_left h w s.header s.line (sym (ap (λ (ls : List (List ℕ)). (turn s.header s.line ls).header) none.1) ∙ kept)

  -- ---- the steps of a replay

  -- of a source that does not tell its bytes nothing is said
  pub unknown_ends : (left before now : Option (List ℕ)) (x : Result (Unit {0}) ReplayError) → EndsWith m None left before now x
  unknown_ends left before now (Ok x) = tt
  unknown_ends left before now (Err errors.ReadFault) = tt
  unknown_ends left before now (Err _) = tt

  starved_first : (bytes left before : Option (List ℕ)) → EndsWith m bytes left before before (Err errors.NoMemory)
  starved_first None left before = tt
  starved_first (Some bytes) left before = prefix_nil before (output m true bytes).text (output_some m bytes)

  pub starved_ends : (bytes left before : Option (List ℕ)) (r : Result (Unit {0}) ReplayError) (e : ReplayError) → r ≡ Err e
      → e ≡ errors.NoMemory → EndsWith m bytes left before before r
  starved_ends bytes left before r e is none = rw (is, none) (starved_first bytes left before)

  pub stopped : (bytes left rest_left : Option (List ℕ)) (before now after : Option (List ℕ)) (pending : List ℕ) (r s : Reading)
      (h : Header) (w : WorldState) (e : NextError) (x : ReplayError)
      → GoingOf m bytes left before now pending r h w → TakesOf r s left rest_left (Err e) → LeavesNone s (Err e)
      → Stops now after pending e x → EndsWith m bytes rest_left before after (Err x)
  stopped None left rest_left before now after pending r s h w e x going took none f = unknown_ends rest_left before after (Err x)
  stopped (Some bytes) None rest_left before now after pending r s h w e x going took none f = absurd going
  stopped (Some bytes) (Some left) None before now after pending r s h w e x going took none f = absurd took
  stopped (Some bytes) (Some left) (Some rest_left) before now after pending r s h w (nexts.BadLine line rule) x going took none f =
      let p = answered bytes left rest_left before now pending r s h w (Err (nexts.BadLine line rule)) going took.0 took.1 took.2 in
      refuses_with bytes rest_left before now after pending s _ (bad_line line rule) x p (λ more nothing. refl) p.end f
  stopped (Some bytes) (Some left) (Some rest_left) before now after pending r s h w nexts.ReadFault x going took none f =
      let p = answered bytes left rest_left before now pending r s h w (Err nexts.ReadFault) going took.0 took.1 took.2 in
      interrupts_with bytes rest_left before now after pending s _ x p none.0
      (fault_follows r s h w took.0 rest_left going.header took.2 none) f
  stopped (Some bytes) (Some left) (Some rest_left) before now after pending r s h w nexts.NoMemory x going took none f =
      let p = answered bytes left rest_left before now pending r s h w (Err nexts.NoMemory) going took.0 took.1 took.2 in
      fails_with bytes rest_left before now after pending s _ [] _ x p refl (after_turn_some m h.config w (turn_of s true rest_left))
      (rw (append-nil pending) f)

  pub finished : (bytes left rest_left : Option (List ℕ)) (before now after : Option (List ℕ)) (pending : List ℕ) (r s : Reading)
      (h : Header) (w : WorldState) (x : Result (Unit {0}) ReplayError)
      → GoingOf m bytes left before now pending r h w → TakesOf r s left rest_left (Ok None)
      → Writes now after (pending ++ final_text w) x → EndsWith m bytes rest_left before after x
  finished None left rest_left before now after pending r s h w x going took f = unknown_ends rest_left before after x
  finished (Some bytes) None rest_left before now after pending r s h w x going took f = absurd going
  finished (Some bytes) (Some left) None before now after pending r s h w x going took f = absurd took
  finished (Some bytes) (Some left) (Some rest_left) before now after pending r s h w x going took f =
      let p = answered bytes left rest_left before now pending r s h w (Ok None) going took.0 took.1 took.2 in
      finishes bytes rest_left before now after pending s _ w x p ((took.2.turn true [] (all_ended s)).1) (λ more. refl) f

  pub advances : (bytes left : List ℕ) (before now after : Option (List ℕ)) (pending new_pending : List ℕ) (r : Reading)
      (h : Header) (w v : WorldState) (e : Event)
      → r.header ≡ Some h → Progress m bytes left before now pending r
      (λ ended more. after_answer m ended more h.config w r (Ok (Some e))) → Advances (step m w e) v now after pending new_pending
      → Going m bytes left before after new_pending r h v
  advances bytes left before now after pending new_pending r h w v e is p a =
      let gathered : (p.written ++ pending) ++ lines_text a.lines ≡ (p.written ++ a.written) ++ new_pending =
      append_assoc p.written pending (lines_text a.lines)
      ∙ ap (λ (t : List ℕ). p.written ++ t) (sym a.text) ∙ sym (append_assoc p.written a.written new_pending) in
      record {
        header = is;
        progress = record {
          taken = p.taken;
          split = p.split;
          end = p.end;
          written = p.written ++ a.written;
          wrote = Appends-trans before now after p.written a.written p.wrote a.wrote;
          goes = λ ended more may.
              let lines = lines_before r ended more in
              let after_it = rest m ended h.config v r.line lines in
              let text : (p.written ++ pending) ++ (lines_text a.lines ++ after_it.text) ≡ ((p.written ++ a.written) ++ new_pending)
              ++ after_it.text =
              sym (append_assoc (p.written ++ pending) (lines_text a.lines) after_it.text)
              ∙ ap (λ (t : List ℕ). t ++ after_it.text) gathered in
              p.goes ended more may
              ∙ ap (λ (q : Result Happened Refusal). then_text (p.written ++ pending) (after_step m ended h.config r.line lines q)) a.is
              ∙ ap (λ (t : List ℕ). record { text = t; bad = after_it.bad }) text;
        };
      }

  pub advanced : (bytes left rest_left : Option (List ℕ)) (before now after : Option (List ℕ)) (pending new_pending : List ℕ)
      (r s : Reading) (h : Header) (w v : WorldState) (e : Event)
      → GoingOf m bytes left before now pending r h w → TakesOf r s left rest_left (Ok (Some e))
      → Advances (step m w e) v now after pending new_pending
      → GoingOf m bytes rest_left before after new_pending s h v
  advanced None left rest_left before now after pending new_pending r s h w v e going took a = tt
  advanced (Some bytes) None rest_left before now after pending new_pending r s h w v e going took a = absurd going
  advanced (Some bytes) (Some left) None before now after pending new_pending r s h w v e going took a = absurd took
  advanced (Some bytes) (Some left) (Some rest_left) before now after pending new_pending r s h w v e going took a =
      let p = answered bytes left rest_left before now pending r s h w (Ok (Some e)) going took.0 took.1 took.2 in
      advances bytes rest_left before now after pending new_pending s h w v e (event_keeps r s h took.0 rest_left e going.header took.2) p a

  pub step_refused : (bytes left : List ℕ) (before now after : Option (List ℕ)) (pending : List ℕ) (r : Reading) (c : Configuration)
      (w : WorldState) (e : Event) (q : Result Happened Refusal) (x : ReplayError)
      → step m w e ≡ q → Progress m bytes left before now pending r
      (λ ended more. after_answer m ended more c w r (Ok (Some e))) → RefusesStep now after pending r.line q x
      → EndsWith m (Some bytes) (Some left) before after (Err x)
  step_refused bytes left before now after pending r c w e (Ok h) x is p f =
      let lines = lines_before r true left in
      fails_with bytes left before now after pending r _ (lines_text h.lines) (rest m true c h.world r.line lines).text x p
      (ap (λ (q : Result Happened Refusal). (after_step m true c r.line lines q).text) is) (rest_some m c h.world r.line lines) f
  step_refused bytes left before now after pending r c w e (Err refusal) x is p f =
      refuses_with bytes left before now after pending r _ (refused_line r.line refusal) x p
      (λ more nothing. ap (after_step m true c r.line (lines_before r true more)) is) p.end f

  pub refused_event : (bytes left rest_left : Option (List ℕ)) (before now after : Option (List ℕ)) (pending : List ℕ) (r s : Reading)
      (h : Header) (w : WorldState) (e : Event) (x : ReplayError)
      → GoingOf m bytes left before now pending r h w → TakesOf r s left rest_left (Ok (Some e))
      → RefusesStep now after pending s.line (step m w e) x → EndsWith m bytes rest_left before after (Err x)
  refused_event None left rest_left before now after pending r s h w e x going took f = unknown_ends rest_left before after (Err x)
  refused_event (Some bytes) None rest_left before now after pending r s h w e x going took f = absurd going
  refused_event (Some bytes) (Some left) None before now after pending r s h w e x going took f = absurd took
  refused_event (Some bytes) (Some left) (Some rest_left) before now after pending r s h w e x going took f =
      step_refused bytes rest_left before now after pending s h.config w e (step m w e) x refl
      (answered bytes left rest_left before now pending r s h w (Ok (Some e)) going took.0 took.1 took.2) f
