-- What was read of a transcript, line by line.
use Rattle.std.proofs.Common.{◌≡◌, ◌∙◌, ◌≤◌, ℕ, ◌+◌, Bool, true, false, List, [], ◌∷◌, ◌++◌, length, map, take, Option, Some, None, refl, sym, ap}
use Rattle.std.proofs.Common.{append-nil, arith, subst, inl, inr}
use Rattle.std.specs.List.{flat_map}
use Rattle.std.specs.Prelude.{Result, Ok, Err, OnOk, IfErr, IsErrOf}
use Rattle.std.specs.Io.KnownBytes.{Consumes}
use Rattle.std.proofs.KnownBytes.{Consumes-nil, Consumes-trans}
use Rattle.std.proofs.lemmas.Bool.{false≢true}
use Rattle.std.proofs.lemmas.List.{length-map}
use Rattle.line_reader.specs.Cutting.{Cut, with_end, lines_of}
use Rattle.line_reader.specs.Deciding.{Follows, cut_of}
use Rattle.line_reader.specs.Reading.{Reading, IsFirst, Reaches, TakesFrom, IsEnd, lines_before, opening}
use Rattle.line_reader.specs.declared.first_line.FirstLine.{FirstLine}
use Rattle.nop_types.specs.declared.header.Header.{Header}
use Rattle.outside.specs.Causes.{CountsFor}
use Rattle.transcript_reader.specs.declared.limits.TheConstants.{MAX_TRANSCRIPT_LINES}
use Rattle.transcript_reader.specs.declared.check_error.CheckError.{CheckError}
use Rattle.transcript_reader.specs.declared.check_error.CheckError.TheVariants.{Refuted, ReadFault, NoMemory}
use Rattle.transcript_reader.specs.declared.part.Part.{Part}
use Rattle.transcript_reader.specs.declared.part.Part.TheVariants.{Over}
use Rattle.transcript_reader.specs.AsRead.{cut_as, texts_as, IsError, IsFinished, IsInterrupted, IsRead, IsRefused, IsTaken, IsTranscript}
use Rattle.transcript_reader.specs.AsRead.{Reads, ReadsFirst, RefusesFirst}
use Rattle.transcript_reader.specs.Reading.{Advances, Admits, Behind, IsHeader, First, After, Place, IsAt, IsNoLine, IsUnfinished, ReadsNone}
use Rattle.transcript_reader.specs.Reading.{RefusesCut, Went, whole}
use Rattle.transcript_reader.specs.Steps.{SoFar, nothing_yet}
use Rattle.transcript_reader.specs.Transcripts.{AllFit, Transcript, body, members, transcript_lines}
use Rattle.transcript_reader.proofs.Behinds.{map_with, behind_nothing, behind_grows, behind_advances, starts_with, all_lines}
use Rattle.transcript_reader.proofs.Shapes.{shape_of, run_with, ending}
use Rattle.transcript_rows.specs.declared.row.Row.{Row}
use Rattle.transcript_rows.specs.declared.row.Row.TheVariants.{End}
use Rattle.transcript_rows.specs.Rows.{RowFits, row_text}
use Rattle.transcript_text.specs.Transcript.{transcript_line}

-- ---- the source

ends_from : (before middle left : Option (List ℕ)) (taken : List ℕ) → Consumes before middle taken → IsEnd middle left → IsEnd before left
ends_from None middle left taken c e = tt
ends_from (Some xs) None left taken c e = absurd c
ends_from (Some xs) (Some ys) left taken c e = e

no_more : (before middle left : Option (List ℕ)) (taken : List ℕ) → Consumes before middle taken → IsEnd before middle
    → Consumes middle left [] → IsEnd before left
no_more None middle left taken c e d = tt
no_more (Some xs) None left taken c e d = absurd c
no_more (Some xs) (Some ys) None taken c e d = absurd d
no_more (Some xs) (Some ys) (Some zs) taken c e d = sym d ∙ e

both_cases : (b : Bool) {P : Type 0} → (b ≡ false → P) → (b ≡ true → P) → P
both_cases true f g = g refl
both_cases false f g = f refl

pub went_on : (before middle left : Option (List ℕ)) (all : List ℕ) (old new : Reading) → Went before middle all old.ended
    → (takes : TakesFrom old new middle left) → Went before left (all ++ takes.taken) new.ended
went_on before middle left all old new went takes = record {
  source = Consumes-trans before middle left all takes.taken went.source takes.source;
  end = λ ended. both_cases old.ended
      (λ going. ends_from before middle left all went.source (takes.end going ended))
      (λ was. no_more before middle left all went.source (went.end was)
      (subst (Consumes middle left) (takes.grows.after_end was).0 takes.source));
}

pub went_nothing : (before : Option (List ℕ)) → Went before before [] false
went_nothing before = record { source = Consumes-nil before; end = λ ended. absurd (false≢true ended) }

-- ---- the first line

pub reads_first : (before left : Option (List ℕ)) (old new : Reading) → old ≡ opening MAX_TRANSCRIPT_LINES
    → TakesFrom old new before left → ReadsNone before left new
reads_first before left old new is takes = record {
  all = [] ++ takes.taken;
  went = went_on before before left [] old new
      (subst (λ (r : Reading). Went before before [] r.ended) (sym is) (went_nothing before)) takes;
  behind = behind_grows [] [] old (subst (Behind [] []) (sym is) behind_nothing) new takes.taken takes.grows;
}

header_taken : (before left : Option (List ℕ)) (r new : Reading) (first : FirstLine) → ReadsNone before left r → IsFirst r first
    → Advances r new first → IsHeader (take first.len r.pending) → ReadsFirst before left new
header_taken before left r new first reads is on header = record {
  all = reads.all;
  went = subst (Went before left reads.all) (sym on.ended) reads.went;
  text = take first.len r.pending;
  behind = behind_advances [] reads.all r reads.behind new first is on;
  header = header.0;
  is = header.1;
  line = header.2;
}

pub header_ok : (before left : Option (List ℕ)) (r new : Reading) (first : FirstLine) → IsFirst r first → {T : Type 0}
    (res : Result T CheckError) → ReadsNone before left r → OnOk res (Advances r new first)
    → OnOk res (IsHeader (take first.len r.pending)) → OnOk res (ReadsFirst before left new)
header_ok before left r new first is (Ok x) reads on header = header_taken before left r new first reads is on header
header_ok before left r new first is (Err e) reads on header = tt

-- no read failed, and none is told
stays : {T : Type 0} (a b : ℕ) (res : Result T CheckError) → b ≡ a → (IsErrOf res ReadFault → ⊥) → CountsFor a b ReadFault res
stays a b res same never = record { later = omega (arith, same); failed = λ is. absurd (never is); others = λ other. same }

pub no_fault : {T : Type 0} (a b : ℕ) (f : List ℕ → List ℕ) (r : Reading) (first : FirstLine) (place : Place) (res : Result T CheckError)
    → b ≡ a → IfErr res (RefusesFirst f r first place) → CountsFor a b ReadFault res
no_fault a b f r first place (Ok x) same h = stays a b (Ok x) same (λ e. absurd cc)
no_fault a b f r first place (Err (Refuted line clause)) same h = stays a b (Err (Refuted line clause)) same (λ e. absurd cc)
no_fault a b f r first place (Err ReadFault) same h = absurd h
no_fault a b f r first place (Err NoMemory) same h = stays a b (Err NoMemory) same (λ e. absurd cc)

-- ---- rows

fit_with : (rows : List Row) (row : Row) → AllFit rows → RowFits row → AllFit (rows ++ row ∷ [])
fit_with [] row h fits = (fits, tt)
fit_with (r ∷ rows) row h fits = (h.0, fit_with rows row h.1 fits)

row_count : (texts : List (List ℕ)) (header : Header) (rows : List Row) (s : SoFar) → Admits texts header rows s
    → length texts ≡ length rows + 1
row_count texts header rows s admits =
    let e = ap length admits.lines in omega (arith, e, length-map texts whole, length-map rows row_text)

by_lines : (texts : List (List ℕ)) → flat_map whole texts ≡ flat_map (λ line. line) (map whole texts)
by_lines [] = refl
by_lines (t ∷ texts) = ap (λ (xs : List ℕ). whole t ++ xs) (by_lines texts)

over_ending : (part : Part) → part ≡ Over → ending part ≡ End ∷ []
over_ending part e = ap ending e

module _ (f : List ℕ → List ℕ) (before left : Option (List ℕ)) where
  -- ---- a line that is refused, or missing, and no line

  module _ (r : Reading) (all : List ℕ) (texts : List (List ℕ)) (place : Place) (went : Went before left all r.ended) (behind : Behind texts all r)
      (at : IsAt (texts_as f texts) place) where
    refused : (first : FirstLine) → IsFirst r first → (e : CheckError) → RefusesFirst f r first place e → IsError f before left e
    refused first is (Refuted line clause) h = record {
      all = all;
      ended = r.ended;
      went = went;
      texts = texts;
      place = place;
      at = at;
      number = h.0 ∙ ap (λ (k : ℕ). k + 1) behind.line;
      refuses = inl (
        cut_of first r.pending,
        starts_with texts all r behind first is,
        subst (λ (k : ℕ). RefusesCut k place (cut_as f place (cut_of first r.pending)) clause) behind.line h.1,
      );
    }
    refused first is ReadFault h = absurd h
    refused first is NoMemory h = tt

    missing : (line : ℕ) → IsUnfinished place → Reaches r None → line ≡ r.line + 1 → IsRefused f before left line 2
    missing line open_end reaches number = record {
      all = all;
      ended = r.ended;
      went = went;
      texts = texts;
      place = place;
      at = at;
      number = number ∙ ap (λ (k : ℕ). k + 1) behind.line;
      refuses = inr (refl, reaches.0, all_lines texts all r behind reaches.0 reaches.1, open_end);
    }

    interrupted : r.ended ≡ false → lines_before r false [] ≡ [] → IsInterrupted f before left
    interrupted going none =
        let follows : Follows r.ended false [] = record { nothing = λ was. refl; end = λ was. sym going ∙ was } in
        record {
          all = all;
          source = went.source;
          texts = texts;
          place = place;
          at = at;
          decided = ap (lines_of MAX_TRANSCRIPT_LINES false 0) (sym (append-nil all))
              ∙ behind.lines false [] follows
              ∙ ap (λ (k : ℕ). map with_end texts ++ lines_of k false r.line (r.pending ++ [])) (sym behind.most)
              ∙ ap (λ (cuts : List Cut). map with_end texts ++ cuts) none
              ∙ append-nil (map with_end texts);
        }

    no_line : (e : CheckError) → IsNoLine r e → IsError f before left e
    no_line (Refuted line clause) h = absurd h
    no_line ReadFault h = interrupted h.0 h.1
    no_line NoMemory h = tt

  -- the first line is read as it is
  at_first : (r : Reading) (first : FirstLine) (e : CheckError) → RefusesFirst (λ (text : List ℕ). text) r first First e
      → RefusesFirst f r first First e
  at_first r first (Refuted line clause) h = h
  at_first r first ReadFault h = h
  at_first r first NoMemory h = h

  pub header_err : {T : Type 0} (r : Reading) (first : FirstLine) (res : Result T CheckError) → IsFirst r first → ReadsNone before left r
      → IfErr res (RefusesFirst (λ (text : List ℕ). text) r first First) → IfErr res (IsError f before left)
  header_err r first (Ok x) is reads h = tt
  header_err r first (Err e) is reads h =
      refused r reads.all [] First reads.went reads.behind refl first is e (at_first r first e h)

  pub missing_first : (r : Reading) → ReadsNone before left r → Reaches r None → IsRefused f before left 1 2
  missing_first r reads reaches =
      missing r reads.all [] First reads.went reads.behind refl 1 tt reaches (let line = reads.behind.line in omega arith)

  pub no_first_line : (r : Reading) (e : CheckError) → ReadsNone before left r → IsNoLine r e → IsError f before left e
  no_first_line r e reads h = no_line r reads.all [] First reads.went reads.behind refl e h

-- ---- behind the first line

module _ (f : List ℕ → List ℕ) {A : Type 0} (read_by : A → SoFar) (Keeps : A → List (List ℕ) → List Row → Type 0) where
  pub reads_behind : (before left : Option (List ℕ)) (r : Reading) (x : A) → ReadsFirst before left r → read_by x ≡ nothing_yet
      → Keeps x [] [] → Reads f read_by Keeps before left r x
  reads_behind before left r x reads nothing keeps = record {
    all = reads.all;
    went = reads.went;
    first = reads.text;
    texts = [];
    behind = reads.behind;
    header = reads.header;
    rows = [];
    admits = record {
      first = reads.is;
      lines = ap (λ (x : List ℕ). x ∷ []) (sym reads.line);
      fit = tt;
      ran = ap (λ (s : SoFar). Some s) (sym nothing);
    };
    keeps = keeps;
  }

  pub reads_on : (before middle left : Option (List ℕ)) (old new : Reading) (x : A) → Reads f read_by Keeps before middle old x
      → TakesFrom old new middle left → Reads f read_by Keeps before left new x
  reads_on before middle left old new x reads takes = record {
    all = reads.all ++ takes.taken;
    went = went_on before middle left reads.all old new reads.went takes;
    first = reads.first;
    texts = reads.texts;
    behind = behind_grows (reads.first ∷ reads.texts) reads.all old reads.behind new takes.taken takes.grows;
    header = reads.header;
    rows = reads.rows;
    admits = reads.admits;
    keeps = reads.keeps;
  }

  module _ (before left : Option (List ℕ)) (r : Reading) (x : A) (reads : Reads f read_by Keeps before left r x) where
    pub refused_after : (first : FirstLine) (e : CheckError) → IsFirst r first → RefusesFirst f r first (After (read_by x)) e
        → IsError f before left e
    refused_after first e is h =
        refused f before left r reads.all (reads.first ∷ reads.texts) (After (read_by x)) reads.went reads.behind
        (reads.header, reads.rows, reads.admits) first is e h

    pub no_later_line : (e : CheckError) → IsNoLine r e → IsError f before left e
    no_later_line e h =
        no_line f before left r reads.all (reads.first ∷ reads.texts) (After (read_by x)) reads.went reads.behind
        (reads.header, reads.rows, reads.admits) e h

    missing_after : (line : ℕ) → Reaches r None → ((read_by x).part ≡ Over → ⊥) → line ≡ r.line + 1 → IsRefused f before left line 2
    missing_after line reaches open_end number =
        missing f before left r reads.all (reads.first ∷ reads.texts) (After (read_by x)) reads.went reads.behind
        (reads.header, reads.rows, reads.admits) line open_end reaches number

    pub row_taken : (new : Reading) (y : A) (first : FirstLine) → IsFirst r first → Advances r new first
        → IsTaken f read_by Keeps (r.line + 1) (take first.len r.pending) x y true → Reads f read_by Keeps before left new y
    row_taken new y first is on took =
        let text = take first.len r.pending in
        let row = took.0 in
        let count = row_count (reads.first ∷ map f reads.texts) reads.header reads.rows (read_by x) reads.admits in
        let line = reads.behind.line in
        let mapped = length-map reads.texts f in
        record {
          all = reads.all;
          went = subst (Went before left reads.all) (sym on.ended) reads.went;
          first = reads.first;
          texts = reads.texts ++ text ∷ [];
          behind = behind_advances (reads.first ∷ reads.texts) reads.all r reads.behind new first is on;
          header = reads.header;
          rows = reads.rows ++ row ∷ [];
          admits = record {
            first = reads.admits.first;
            lines = ap (λ (xs : List (List ℕ)). whole reads.first ∷ map whole xs) (map_with f reads.texts text)
                ∙ map_with whole (reads.first ∷ map f reads.texts) (f text)
                ∙ ap (λ (xs : List (List ℕ)). xs ++ whole (f text) ∷ []) reads.admits.lines
                ∙ ap (λ (x : List ℕ). transcript_line reads.header.form reads.header.config ∷ (map row_text reads.rows ++ x ∷ [])) (sym took.2)
                ∙ ap (λ (xs : List (List ℕ)). transcript_line reads.header.form reads.header.config ∷ xs)
                (sym (map_with row_text reads.rows row));
            fit = fit_with reads.rows row reads.admits.fit took.1;
            ran = run_with (Some nothing_yet) 2 reads.rows row (read_by x) (r.line + 1) (omega (arith, count, line, mapped)) reads.admits.ran
                ∙ took.3;
          };
          keeps = took.4 reads.texts reads.rows (omega (arith, count, mapped)) reads.keeps;
        }

    -- ---- the whole transcript

    finished : (count : ℕ) → Reaches r None → (read_by x).part ≡ Over → r.line ≤ MAX_TRANSCRIPT_LINES → count ≡ r.line
        → IsTranscript f read_by Keeps before left x count
    finished count reaches over most same =
        let s = read_by x in
        let shape = shape_of reads.rows s reads.admits.ran in
        let t : Transcript = record {
          header = reads.header;
          events = shape.events;
          states = shape.states;
          observers = shape.observers;
          history = s.history;
        } in
        let rows_are : reads.rows ≡ body t =
        shape.is
        ∙ ap (λ (xs : List Row). shape.events ++ (shape.states ++ (shape.observers ++ (members 1 s.history ++ xs)))) (over_ending s.part over) in
        let texts = reads.first ∷ map f reads.texts in
        let lines_are : map whole texts ≡ transcript_lines t =
        reads.admits.lines ∙ ap (λ (rows : List Row). transcript_line reads.header.form reads.header.config ∷ map row_text rows) rows_are in
        let mapped = length-map reads.texts f in
        let line = reads.behind.line in
        let number : r.line ≡ length (transcript_lines t) = sym (length-map texts whole ∙ omega (arith, line, mapped)) ∙ ap length lines_are in
        let bytes : reads.all ≡ flat_map whole (reads.first ∷ reads.texts) =
        reads.behind.bytes ∙ ap (λ (xs : List ℕ). flat_map whole (reads.first ∷ reads.texts) ++ xs) reaches.1
        ∙ append-nil (flat_map whole (reads.first ∷ reads.texts)) in
        record {
          first = reads.first;
          texts = reads.texts;
          went = subst (λ (xs : List ℕ). Went before left xs true) bytes (subst (Went before left reads.all) reaches.0 reads.went);
          transcript = t;
          spells = record {
            text = by_lines texts ∙ ap (flat_map (λ (line : List ℕ). line)) lines_are;
            fits = record {
              header = reads.admits.first;
              events = shape.are_events;
              states = shape.are_states;
              observers = shape.are_watching;
              rows = subst AllFit rows_are reads.admits.fit;
            };
            most = subst (λ (k : ℕ). k ≤ MAX_TRANSCRIPT_LINES) number most;
          };
          claims = shape.claims;
          places = shape.numbers;
          history = refl;
          keeps = subst (Keeps x reads.texts) rows_are reads.keeps;
          lines = same ∙ number;
        }

    pub finish_read : (res : Result ℕ CheckError) (lines : ℕ) → Reaches r None → lines ≡ r.line → r.line ≤ MAX_TRANSCRIPT_LINES
        → IsFinished (read_by x).part lines res → IsRead f read_by Keeps before left x res
    finish_read (Ok count) lines reaches same most h = finished count reaches h.1 most (h.0 ∙ same)
    finish_read (Err (Refuted line clause)) lines reaches same most h =
        subst (λ (c : ℕ). IsRefused f before left line c) (sym h.1)
        (missing_after line reaches h.2 (h.0 ∙ ap (λ (k : ℕ). k + 1) same))
    finish_read (Err ReadFault) lines reaches same most h = absurd h
    finish_read (Err NoMemory) lines reaches same most h = absurd h
