-- Lines that are taken, one behind another.
use Rattle.std.proofs.Common.{◌≡◌, ◌∙◌, ℕ, ◌+◌, ◌<◌, ◌≤◌, arith, inl, inr, length, length-take, Bool, true, false, List, [], ◌∷◌, ◌++◌, Option, Some, None, refl, sym, ap, subst, append-nil}
use Rattle.std.proofs.KnownBytes.{Appends-nil, Appends-trans, Consumes-nil}
use Rattle.std.proofs.lemmas.Bool.{eqb-true, false≢true}
use Rattle.std.proofs.lemmas.Grind.{flat_map-append}
use Rattle.std.proofs.lemmas.List.{map-append}
use Rattle.std.specs.Prelude.{◌⊎◌, ◌==◌, Result, Ok, Err, IfOk}
use Rattle.std.specs.List.{flat_map}
use Rattle.std.specs.Io.KnownBytes.{Appends}
use Rattle.line_fields.specs.Fields.{fields}
use Rattle.line_reader.specs.Cutting.{Cut, lines_of}
use Rattle.line_reader.specs.Deciding.{Follows, cut_of}
use Rattle.line_reader.specs.Reading.{Reading, IsFirst, LeavesNone, Reaches, TakesFrom, opening}
use Rattle.line_reader.specs.declared.first_line.FirstLine.{FirstLine}
use Rattle.line_reader.specs.declared.read_error.ReadError.{ReadError}
use Rattle.line_reader.specs.declared.read_error.ReadError.TheVariants as reads
use Rattle.nop_types.specs.declared.limits.TheConstants.{MAX_LINE_BYTES}
use Rattle.client_call.specs.Sessions.{SessionState, ended_by}
use Rattle.client_call.specs.declared.errors.CallError.{CallError}
use Rattle.client_call.specs.declared.errors.CallError.TheVariants as errors
use Rattle.outside.specs.declared.errors.DeviceError.{DeviceError}
use Rattle.service_words.specs.Translating.{Advances, Behind, IsFirsts, Went}
use Rattle.service_words.specs.declared.limits.TheConstants.{MAX_TEXT_LINES}
use Rattle.service_words.proofs.Behinds.{all_lines, behind_advances, behind_grows, behind_nothing, starts_so_far, starts_with}
use Rattle.service_words.proofs.Readings.{went_on}
use Rattle.service_tool.specs.Calls.{Answers, Concludes, GoesOnBy}
use Rattle.service_tool.specs.Outputs.{Outputs, outputs}
use Rattle.service_tool.specs.Repl.{Answered, AtEnd, AtFailure, AtFault, AtLong, Becomes, BecomesBy, Blank, Comes, Fate, InTurn, NoOp, NotAnswered, Stop}
use Rattle.service_tool.specs.Repl.{StopsBehind, Taken, TakesLine, TakesLines, TakesOp, Writes, cuts_of, fate_status, fate_text, fate_told, first_status}
use Rattle.service_tool.specs.Repl.{goes_on, refusals_text, results_text, stop_status, stop_told, worse}
use Rattle.service_tool.specs.Statuses.{read_status, status_of}
use Rattle.service_tool.specs.declared.status.Status.{Status}
use Rattle.service_tool.specs.declared.status.Status.TheVariants.{Done, Usage, ReadFault, WriteFault}
use Rattle.service_tool.specs.declared.status.Status.TheVariants.{LinkFault, NoMemory, Unanswered, Refuted}
use Rattle.service_tool.specs.declared.telling.Tool.{Tool}

-- nothing was written
pub wrote_nothing : (held now : Option (List ℕ)) → now ≡ held → Appends held now []
wrote_nothing held now same = subst (λ (x : Option (List ℕ)). Appends held x []) (sym same) (Appends-nil held)

-- ---- statuses

worse_done : (a : Status) → worse a Done ≡ a
worse_done Done = refl
worse_done Usage = refl
worse_done ReadFault = refl
worse_done WriteFault = refl
worse_done LinkFault = refl
worse_done NoMemory = refl
worse_done Unanswered = refl
worse_done Refuted = refl

worse_worse : (a b c : Status) → worse (worse a b) c ≡ worse a (worse b c)
worse_worse Done b c = refl
worse_worse Usage b c = refl
worse_worse ReadFault b c = refl
worse_worse WriteFault b c = refl
worse_worse LinkFault b c = refl
worse_worse NoMemory b c = refl
worse_worse Unanswered b c = refl
worse_worse Refuted b c = refl

status_push : (xs : List Taken) (x : Taken) → first_status (xs ++ x ∷ []) ≡ worse (first_status xs) (fate_status x.fate)
status_push [] x = worse_done (fate_status x.fate)
status_push (y ∷ ys) x =
    ap (worse (fate_status y.fate)) (status_push ys x)
    ∙ sym (worse_worse (fate_status y.fate) (first_status ys) (fate_status x.fate))

fate_goes_on : (fate : Fate) → goes_on (fate_status fate) ≡ true
fate_goes_on Blank = refl
fate_goes_on NoOp = refl
fate_goes_on (Answered accept) = refl
fate_goes_on NotAnswered = refl

failure_ends : (e : CallError) → ended_by (Err e) ≡ Some e → goes_on (status_of e) ≡ false
failure_ends errors.PortFault is = refl
failure_ends errors.LinkFault is = refl
failure_ends errors.Unanswered is = absurd cc
failure_ends errors.NoMemory is = refl

-- ---- one line

text_push : {X : Type 0} (f : X → List ℕ) (xs : List X) (x : X) → flat_map f (xs ++ x ∷ []) ≡ flat_map f xs ++ f x
text_push f xs x = flat_map-append f xs (x ∷ []) ∙ ap (λ (t : List ℕ). flat_map f xs ++ t) (append-nil (f x))

not_ended_by : (op : Option (List ℕ)) (s t : SessionState) (ended : Option CallError) (fate : Fate) → BecomesBy op s t ended fate → ended ≡ None
not_ended_by None s t ended NoOp h = h.1
not_ended_by (Some op) s t ended (Answered accept) h = h.1.has_not_ended
not_ended_by (Some op) s t ended NotAnswered h = h.has_not_ended
not_ended_by _ s t ended _ h = absurd h

module _ (op_of : List (List ℕ) → Option (List ℕ)) where
  not_ended : (line : List ℕ) (s t : SessionState) (ended : Option CallError) (fate : Fate) → Becomes op_of line s t ended fate → ended ≡ None
  not_ended [] s t ended Blank h = h.1
  not_ended [] s t ended _ h = absurd h
  not_ended (b ∷ line) s t ended fate h = not_ended_by (op_of (fields (b ∷ line))) s t ended fate h

  in_turn_push : (xs : List Taken) (s t u : SessionState) (x : Taken) → InTurn op_of s xs t → Becomes op_of x.cut.text t u None x.fate
      → InTurn op_of s (xs ++ x ∷ []) u
  in_turn_push [] s t u x is h = (u, subst (λ (v : SessionState). Becomes op_of x.cut.text v u None x.fate) is h, refl)
  in_turn_push (y ∷ ys) s t u x is h = (is.0, is.1, in_turn_push ys is.0 t u x is.2 h)

module _ (op_of : List (List ℕ) → Option (List ℕ)) (result_words : List ℕ → List (List ℕ)) (tool : Tool) (with_slot : Bool) where
  becomes : (b : ℕ) (line : List ℕ) (s t : SessionState) (ended : Option CallError) (op : Option (List ℕ)) (fate : Fate)
      → op_of (fields (b ∷ line)) ≡ op → BecomesBy op s t ended fate → Becomes op_of (b ∷ line) s t ended fate
  becomes b line s t ended op fate named h = subst (λ (x : Option (List ℕ)). BecomesBy x s t ended fate) (sym named) h

  -- its op was called
  called : (b : ℕ) (line : List ℕ) (s t : SessionState) (ended : Option CallError) (op : List ℕ) (o : Outputs) (status : Status)
      → op_of (fields (b ∷ line)) ≡ Some op → (r : Result (List ℕ) CallError) → Answers result_words s op with_slot r → GoesOnBy s t op ended r
      → Concludes tool.program.now r o status → TakesLine op_of result_words tool with_slot (b ∷ line) s t ended o status
  called b line s t ended op o status named (Ok lines) a g c = record {
    result = Ok (Answered a.accept);
    comes = becomes b line s t ended (Some op) (Answered a.accept) named (a.answered, g);
    writes = (subst (λ (text : List ℕ). Appends o.out o.now_out text) a.are c.1.0, wrote_nothing o.err o.now_err c.1.1, c.0);
  }
  called b line s t ended op o status named (Err errors.Unanswered) a g c = record {
    result = Ok NotAnswered;
    comes = becomes b line s t ended (Some op) NotAnswered named g;
    writes = (wrote_nothing o.out o.now_out c.1.1, c.1.0, c.0);
  }
  called b line s t ended op o status named (Err errors.PortFault) a g c = record {
    result = Err errors.PortFault;
    comes = (op, named, refl);
    writes = (wrote_nothing o.out o.now_out c.1.1, c.1.0, c.0);
  }
  called b line s t ended op o status named (Err errors.LinkFault) a g c = record {
    result = Err errors.LinkFault;
    comes = (op, named, refl);
    writes = (wrote_nothing o.out o.now_out c.1.1, c.1.0, c.0);
  }
  called b line s t ended op o status named (Err errors.NoMemory) a g c = record {
    result = Err errors.NoMemory;
    comes = (op, named, refl);
    writes = (wrote_nothing o.out o.now_out c.1.1, c.1.0, c.0);
  }

  -- its words were taken
  took_words : (b : ℕ) (line : List ℕ) (s t : SessionState) (was ended : Option CallError) (o : Outputs) (status : Status) (op : Option (List ℕ))
      → op_of (fields (b ∷ line)) ≡ op → was ≡ None → TakesOp result_words tool s t was ended (fields (b ∷ line)) op with_slot o status
      → TakesLine op_of result_words tool with_slot (b ∷ line) s t ended o status
  took_words b line s t was ended o status (Some op) named none takes =
      called b line s t ended op o status named takes.result takes.answers (takes.goes_on none) takes.concludes
  took_words b line s t was ended o status None named none takes = record {
    result = Ok NoOp;
    comes = becomes b line s t ended None NoOp named (takes.2, takes.3 ∙ none);
    writes = (wrote_nothing o.out o.now_out takes.1.1, takes.1.0, takes.0);
  }

  pub took_line : (line : List ℕ) (s t : SessionState) (was ended : Option CallError) (o : Outputs) (r : Result Status DeviceError)
      → (length line == 0) ≡ false → was ≡ None
      → IfOk r (TakesOp result_words tool s t was ended (fields line) (op_of (fields line)) with_slot o)
      → IfOk r (TakesLine op_of result_words tool with_slot line s t ended o)
  took_line [] s t was ended o r some none takes = absurd (false≢true (sym some))
  took_line (b ∷ line) s t was ended o (Ok status) some none takes =
      took_words b line s t was ended o status (op_of (fields (b ∷ line))) refl none takes
  took_line (b ∷ line) s t was ended o (Err e) some none takes = tt

  pub took_blank : (line : List ℕ) (s : SessionState) (ended : Option CallError) (out err : Option (List ℕ)) → (length line == 0) ≡ true
      → ended ≡ None → TakesLine op_of result_words tool with_slot line s s ended (outputs out out err err) Done
  took_blank [] s ended out err is none = record {
    result = Ok Blank;
    comes = (refl, none);
    writes = (Appends-nil out, Appends-nil err, refl);
  }
  took_blank (b ∷ line) s ended out err is none =
      let some = eqb-true (length (b ∷ line)) 0 is in
      absurd (omega (arith, some))

  open_by : (line : List ℕ) (s t : SessionState) (ended : Option CallError) (o : Outputs) (status : Status) (r : Result Fate CallError)
      → Comes op_of line s t ended r → Writes result_words tool with_slot line o status r → goes_on status ≡ true → ended ≡ None
  open_by line s t ended o status (Ok fate) c w more = not_ended op_of line s t ended fate c
  open_by line s t ended o status (Err e) c w more = absurd (false≢true (sym (ap goes_on w.2 ∙ failure_ends e c.2) ∙ more))

  -- behind a line after which ops go on, the session has not ended
  pub stays_open : (line : List ℕ) (s t : SessionState) (ended : Option CallError) (o : Outputs) (status : Status)
      → TakesLine op_of result_words tool with_slot line s t ended o status → goes_on status ≡ true → ended ≡ None
  stays_open line s t ended o status takes more = open_by line s t ended o status takes.result takes.comes takes.writes more

  -- ---- all lines so far

  pub record Progress (before left : Option (List ℕ)) (s t : SessionState) (o : Outputs) (r : Reading) (status : Status) : Type 0 where
    pub all : List ℕ
    pub went : Went before left all r.ended
    pub taken : List Taken
    pub behind : Behind (cuts_of taken) all r
    pub in_turn : InTurn op_of s taken t
    pub results : Appends o.out o.now_out (results_text result_words with_slot taken)
    pub refusals : Appends o.err o.now_err (refusals_text tool taken)
    pub first : status ≡ first_status taken

  pub took_none : (before : Option (List ℕ)) (s : SessionState) (out err : Option (List ℕ))
      → Progress before before s s (outputs out out err err) (opening MAX_TEXT_LINES) Done
  took_none before s out err = record {
    all = [];
    went = record { source = Consumes-nil before; end = λ ended. absurd (false≢true ended) };
    taken = [];
    behind = behind_nothing;
    in_turn = refl;
    results = Appends-nil out;
    refusals = Appends-nil err;
    first = refl;
  }

  pub read_on : (before middle left : Option (List ℕ)) (s t : SessionState) (o : Outputs) (old new : Reading) (status : Status)
      → Progress before middle s t o old status → TakesFrom old new middle left → Progress before left s t o new status
  read_on before middle left s t o old new status so_far takes = record {
    all = so_far.all ++ takes.taken;
    went = went_on before middle left so_far.all old new so_far.went takes;
    taken = so_far.taken;
    behind = behind_grows (cuts_of so_far.taken) so_far.all old so_far.behind new takes.taken takes.grows;
    in_turn = so_far.in_turn;
    results = so_far.results;
    refusals = so_far.refusals;
    first = so_far.first;
  }

  module _ (before left : Option (List ℕ)) (s t : SessionState) (o : Outputs) (r : Reading) (status : Status)
      (so_far : Progress before left s t o r status) where
    -- the lines taken so far come first
    are_firsts : IsFirsts before left (cuts_of so_far.taken)
    are_firsts = record {
      all = so_far.all;
      ended = r.ended;
      went = so_far.went;
      starts = starts_so_far (cuts_of so_far.taken) so_far.all r so_far.behind;
    }

    with_next : (first : FirstLine) → IsFirst r first → IsFirsts before left (cuts_of so_far.taken ++ cut_of first r.pending ∷ [])
    with_next first is = record {
      all = so_far.all;
      ended = r.ended;
      went = so_far.went;
      starts = starts_with (cuts_of so_far.taken) so_far.all r so_far.behind first is;
    }

    -- ---- one more line

    module _ (first : FirstLine) (is : IsFirst r first) (u : SessionState) (ended : Option CallError) (now_out now_err : Option (List ℕ))
        (now : Status) where
      abbrev wrote : Outputs
      wrote = outputs o.now_out now_out o.now_err now_err

      abbrev line : List ℕ
      line = (cut_of first r.pending).text

      becomes_next : (fate : Fate) (new : Reading) → Advances r new first → Becomes op_of line t u ended fate
          → Writes result_words tool with_slot line wrote now (Ok fate)
          → Progress before left s u (outputs o.out now_out o.err now_err) new (worse status now)
      becomes_next fate new on h w =
          let x : Taken = record { cut = cut_of first r.pending; fate = fate } in
          let b : Becomes op_of line t u None fate =
          subst (λ (e : Option CallError). Becomes op_of line t u e fate) (not_ended op_of line t u ended fate h) h in
          record {
            all = so_far.all;
            went = subst (Went before left so_far.all) (sym on.ended) so_far.went;
            taken = so_far.taken ++ x ∷ [];
            behind = subst (λ (cuts : List Cut). Behind cuts so_far.all new) (sym (map-append (λ (y : Taken). y.cut) so_far.taken (x ∷ [])))
                (behind_advances (cuts_of so_far.taken) so_far.all r so_far.behind new first is on);
            in_turn = in_turn_push op_of so_far.taken s t u x so_far.in_turn b;
            results = subst (λ (text : List ℕ). Appends o.out now_out text)
                (sym (text_push (λ (y : Taken). fate_text result_words with_slot y.fate) so_far.taken x))
                (Appends-trans o.out o.now_out now_out (results_text result_words with_slot so_far.taken)
                (fate_text result_words with_slot fate) so_far.results w.0);
            refusals = subst (λ (text : List ℕ). Appends o.err now_err text)
                (sym (text_push (λ (y : Taken). fate_told tool y.cut.text y.fate) so_far.taken x))
                (Appends-trans o.err o.now_err now_err (refusals_text tool so_far.taken) (fate_told tool line fate) so_far.refusals w.1);
            first = ap (λ (a : Status). worse a now) so_far.first ∙ ap (worse (first_status so_far.taken)) w.2
                ∙ sym (status_push so_far.taken x);
          }

      fails_next : (e : CallError) → Comes op_of line t u ended (Err e) → Writes result_words tool with_slot line wrote now (Err e)
          → TakesLines op_of result_words tool with_slot before left s (outputs o.out now_out o.err now_err) (worse status now)
      fails_next e c w = record {
        taken = so_far.taken;
        last = t;
        in_turn = so_far.in_turn;
        stop = AtFailure e;
        stops = record { cut = cut_of first r.pending; first = with_next first is; op = c.0; spelled = c.1; ends = c.2 };
        results = subst (λ (text : List ℕ). Appends o.out now_out text) (append-nil (results_text result_words with_slot so_far.taken))
            (Appends-trans o.out o.now_out now_out (results_text result_words with_slot so_far.taken) [] so_far.results w.0);
        refusals = Appends-trans o.err o.now_err now_err (refusals_text tool so_far.taken) (stop_told tool (AtFailure e)) so_far.refusals w.1;
        ends = ap (λ (a : Status). worse a now) so_far.first ∙ ap (worse (first_status so_far.taken)) w.2;
      }

      next_by : (result : Result Fate CallError) (new : Reading) → Advances r new first → Comes op_of line t u ended result
          → Writes result_words tool with_slot line wrote now result → goes_on now ≡ true
          → Progress before left s u (outputs o.out now_out o.err now_err) new (worse status now)
      next_by (Ok fate) new on c w more = becomes_next fate new on c w
      next_by (Err e) new on c w more = absurd (false≢true (sym (ap goes_on w.2 ∙ failure_ends e c.2) ∙ more))

      pub next : (new : Reading) → Advances r new first → TakesLine op_of result_words tool with_slot line t u ended wrote now
          → goes_on now ≡ true → Progress before left s u (outputs o.out now_out o.err now_err) new (worse status now)
      next new on takes more = next_by takes.result new on takes.comes takes.writes more

      stops_by : (result : Result Fate CallError) → Comes op_of line t u ended result
          → Writes result_words tool with_slot line wrote now result → goes_on now ≡ false
          → TakesLines op_of result_words tool with_slot before left s (outputs o.out now_out o.err now_err) (worse status now)
      stops_by (Ok fate) c w last = absurd (false≢true (sym last ∙ ap goes_on w.2 ∙ fate_goes_on fate))
      stops_by (Err e) c w last = fails_next e c w

      pub stops : TakesLine op_of result_words tool with_slot line t u ended wrote now → goes_on now ≡ false
          → TakesLines op_of result_words tool with_slot before left s (outputs o.out now_out o.err now_err) (worse status now)
      stops takes last = stops_by takes.result takes.comes takes.writes last

    -- ---- no more lines

    ends_by : (stop : Stop) (now_err : Option (List ℕ)) (now : Status) → StopsBehind op_of before left (cuts_of so_far.taken) stop
        → Appends o.now_err now_err (stop_told tool stop) → now ≡ stop_status stop
        → TakesLines op_of result_words tool with_slot before left s (outputs o.out o.now_out o.err now_err) (worse status now)
    ends_by stop now_err now behind told is = record {
      taken = so_far.taken;
      last = t;
      in_turn = so_far.in_turn;
      stop = stop;
      stops = behind;
      results = so_far.results;
      refusals = Appends-trans o.err o.now_err now_err (refusals_text tool so_far.taken) (stop_told tool stop) so_far.refusals told;
      ends = ap (λ (a : Status). worse a now) so_far.first ∙ ap (worse (first_status so_far.taken)) is;
    }

    pub at_end : Reaches r None → TakesLines op_of result_words tool with_slot before left s o status
    at_end reaches =
        let behind = so_far.behind in
        subst (TakesLines op_of result_words tool with_slot before left s o) (worse_done status)
        (ends_by AtEnd o.now_err Done (record {
          all = so_far.all;
          went = subst (Went before left so_far.all) reaches.0 so_far.went;
          lines = all_lines (cuts_of so_far.taken) so_far.all r behind reaches.0 reaches.1;
          short = behind.short;
          few = behind.few;
        }) (Appends-nil o.now_err) refl)

    pub at_long : (first : FirstLine) (now_err : Option (List ℕ)) (now : Status) → IsFirst r first
        → (MAX_TEXT_LINES ≤ r.line) ⊎ (MAX_LINE_BYTES < first.len)
        → now ≡ Usage → Appends o.now_err now_err (stop_told tool AtLong)
        → TakesLines op_of result_words tool with_slot before left s (outputs o.out o.now_out o.err now_err) (worse status now)
    at_long first now_err now is much usage told =
        let behind = so_far.behind in
        ends_by AtLong now_err now (
          length (cuts_of so_far.taken) + 1,
          record {
            cut = cut_of first r.pending;
            first = with_next first is;
            short = behind.short;
            number = refl;
            too_much = elim much [
              | inl many ↦ inl (rw (sym behind.line) many)
              | inr long ↦ inr (let l = is.len in let e = is.end in omega (arith, long, l, e, length-take first.len r.pending))
            ];
          },
        ) told usage

    pub at_fault : (e : ReadError) (now_err : Option (List ℕ)) (now : Status) → LeavesNone {A = Option FirstLine} r (Err e) → now ≡ read_status e
        → Appends o.now_err now_err (stop_told tool (AtFault e))
        → TakesLines op_of result_words tool with_slot before left s (outputs o.out o.now_out o.err now_err) (worse status now)
    at_fault reads.NoMemory now_err now none is told = ends_by (AtFault reads.NoMemory) now_err now are_firsts told is
    at_fault reads.ReadFault now_err now none is told =
        let behind = so_far.behind in
        let cuts = cuts_of so_far.taken in
        let follows : Follows r.ended false [] = record { nothing = λ was. refl; end = λ was. sym none.0 ∙ was } in
        ends_by (AtFault reads.ReadFault) now_err now (record {
          all = so_far.all;
          source = so_far.went.source;
          short = behind.short;
          decided = ap (lines_of MAX_TEXT_LINES false 0) (sym (append-nil so_far.all))
              ∙ behind.lines false [] follows
              ∙ ap (λ (k : ℕ). cuts ++ lines_of k false r.line (r.pending ++ [])) (sym behind.most)
              ∙ ap (λ (cs : List Cut). cuts ++ cs) none.1
              ∙ append-nil cuts;
        }) told is
