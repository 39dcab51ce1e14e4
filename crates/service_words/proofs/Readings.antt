-- What was read and written, line by line.
use Rattle.std.proofs.Common.{◌≡◌, ◌∙◌, ℕ, ◌+◌, Bool, true, false, List, [], ◌∷◌, ◌++◌, Option, Some, None, refl, sym, ap}
use Rattle.std.proofs.Common.{append-nil, arith, subst}
use Rattle.std.specs.Prelude.{Err}
use Rattle.std.specs.List.{flat_map}
use Rattle.std.specs.Io.KnownBytes.{Appends, Consumes}
use Rattle.std.proofs.KnownBytes.{Appends-nil, Appends-trans, Consumes-nil, Consumes-trans}
use Rattle.std.proofs.lemmas.Bool.{false≢true}
use Rattle.std.proofs.lemmas.List.Concat.{flat_map-append}
use Rattle.line_reader.specs.Cutting.{Cut, lines_of}
use Rattle.line_reader.specs.Deciding.{Follows, cut_of}
use Rattle.line_reader.specs.Reading.{Reading, IsFirst, Reaches, TakesFrom, IsEnd, opening}
use Rattle.line_reader.specs.declared.first_line.FirstLine.{FirstLine}
use Rattle.outside.specs.Prefixes.{AppendsPrefix, AppendsUpTo}
use Rattle.service_words.specs.Translating.{Advances, Ends, IsAll, IsFirsts, IsNoLine, IsTooMuch, Puts, Reads, Went, written_line, written_text}
use Rattle.service_words.specs.declared.error.WordsError.{WordsError}
use Rattle.service_words.specs.declared.error.WordsError.TheVariants.{Refused, ReadFault, WriteFault, NoMemory}
use Rattle.service_words.specs.declared.limits.TheConstants.{MAX_TEXT_LINES}
use Rattle.service_words.proofs.Behinds.{behind_nothing, behind_grows, behind_advances, starts_with, starts_so_far, all_lines}
use Rattle.service_words.proofs.Written.{prefix_behind, up_to_behind}

-- ---- the source

ends_from : (before middle left : Option (List ℕ)) (taken : List ℕ) → Consumes before middle taken → IsEnd middle left → IsEnd before left
ends_from None middle left taken c e = tt
ends_from (Some xs) None left taken c e = absurd c
ends_from (Some xs) (Some ys) left taken c e = e

no_more : (before middle left : Option (List ℕ)) (taken : List ℕ) → Consumes before middle taken → IsEnd before middle
    → Consumes middle left [] → IsEnd before left
no_more None middle left taken c e d = tt
no_more (Some xs) None left taken c e d = absurd c
no_more (Some xs) (Some ys) None taken c e d = absurd d
no_more (Some xs) (Some ys) (Some zs) taken c e d = sym d ∙ e

both_cases : (b : Bool) {P : Type 0} → (b ≡ false → P) → (b ≡ true → P) → P
both_cases true f g = g refl
both_cases false f g = f refl

pub went_on : (before middle left : Option (List ℕ)) (all : List ℕ) (old new : Reading) → Went before middle all old.ended
    → (takes : TakesFrom old new middle left) → Went before left (all ++ takes.taken) new.ended
went_on before middle left all old new went takes = record {
  source = Consumes-trans before middle left all takes.taken went.source takes.source;
  end = λ ended. both_cases old.ended
      (λ going. ends_from before middle left all went.source (takes.end going ended))
      (λ was. no_more before middle left all went.source (went.end was)
      (subst (Consumes middle left) (takes.grows.after_end was).0 takes.source));
}

-- the text of lines and one more
text_with : (f : List ℕ → List ℕ) (cuts : List Cut) (cut : Cut) → written_text f (cuts ++ cut ∷ []) ≡ written_text f cuts ++ written_line f cut
text_with f cuts cut =
    flat_map-append (written_line f) cuts (cut ∷ []) ∙ ap (λ (t : List ℕ). written_text f cuts ++ t) (append-nil (written_line f cut))

module _ (f : List ℕ → List ℕ) where
  -- ---- what was read and written before a call, and behind it

  pub reads_nothing : (before held : Option (List ℕ)) → Reads f before before held held (opening MAX_TEXT_LINES)
  reads_nothing before held = record {
    all = [];
    went = record { source = Consumes-nil before; end = λ ended. absurd (false≢true ended) };
    cuts = [];
    behind = behind_nothing;
    written = Appends-nil held;
  }

  pub reads_on : (before middle left held now : Option (List ℕ)) (old new : Reading) → Reads f before middle held now old
      → TakesFrom old new middle left → Reads f before left held now new
  reads_on before middle left held now old new reads takes = record {
    all = reads.all ++ takes.taken;
    went = went_on before middle left reads.all old new reads.went takes;
    cuts = reads.cuts;
    behind = behind_grows reads.cuts reads.all old reads.behind new takes.taken takes.grows;
    written = reads.written;
  }

  pub line_put : (before left held middle now : Option (List ℕ)) (r new : Reading) (first : FirstLine) → Reads f before left held middle r
      → IsFirst r first → Advances r new first → Appends middle now (written_line f (cut_of first r.pending)) → Reads f before left held now new
  line_put before left held middle now r new first reads is on puts = record {
    all = reads.all;
    went = subst (Went before left reads.all) (sym on.ended) reads.went;
    cuts = reads.cuts ++ cut_of first r.pending ∷ [];
    behind = behind_advances reads.cuts reads.all r reads.behind new first is on;
    written = subst (Appends held now) (sym (text_with f reads.cuts (cut_of first r.pending)))
        (Appends-trans held middle now (written_text f reads.cuts) (written_line f (cut_of first r.pending)) reads.written puts);
  }

  -- ---- the ends

  with_line : (before left held now : Option (List ℕ)) (r : Reading) (first : FirstLine) (reads : Reads f before left held now r)
      → IsFirst r first → IsFirsts before left (reads.cuts ++ cut_of first r.pending ∷ [])
  with_line before left held now r first reads is = record {
    all = reads.all;
    ended = r.ended;
    went = reads.went;
    starts = starts_with reads.cuts reads.all r reads.behind first is;
  }

  pub not_put : (before left held middle now : Option (List ℕ)) (r : Reading) (first : FirstLine) (e : WordsError)
      → Reads f before left held middle r → IsFirst r first
      → Puts f {A = Unit {0}} middle now r.line (cut_of first r.pending) (Err e) → Ends f {A = Unit {0}} before left held now (Err e)
  not_put before left held middle now r first (Refused line) reads is h =
      let behind = reads.behind in (
        reads.cuts,
        record {
          cut = cut_of first r.pending;
          first = with_line before left held middle r first reads is;
          short = behind.short;
          number = h.0 ∙ ap (λ (k : ℕ). k + 1) behind.line;
          too_much = subst (λ (k : ℕ). IsTooMuch k (cut_of first r.pending)) behind.line h.1;
        },
        subst (λ (x : Option (List ℕ)). Appends held x (written_text f reads.cuts)) (sym h.2) reads.written,
      )
  not_put before left held middle now r first ReadFault reads is h = absurd h
  not_put before left held middle now r first WriteFault reads is h = (
    reads.cuts ++ cut_of first r.pending ∷ [],
    with_line before left held middle r first reads is,
    subst (AppendsPrefix held now) (sym (text_with f reads.cuts (cut_of first r.pending)))
        (prefix_behind held middle now (written_text f reads.cuts) (written_line f (cut_of first r.pending)) reads.written h),
  )
  not_put before left held middle now r first NoMemory reads is h = (
    reads.cuts ++ cut_of first r.pending ∷ [],
    with_line before left held middle r first reads is,
    subst (AppendsUpTo held now) (sym (text_with f reads.cuts (cut_of first r.pending)))
        (up_to_behind held middle now (written_text f reads.cuts) (written_line f (cut_of first r.pending)) reads.written h),
  )

  pub no_line_came : (before left held now : Option (List ℕ)) (r : Reading) (e : WordsError) → Reads f before left held now r → IsNoLine r e
      → Ends f {A = Unit {0}} before left held now (Err e)
  no_line_came before left held now r (Refused line) reads h = absurd h
  no_line_came before left held now r ReadFault reads h =
      let behind = reads.behind in
      let follows : Follows r.ended false [] = record { nothing = λ was. refl; end = λ was. sym h.0 ∙ was } in (
        reads.cuts,
        record {
          all = reads.all;
          source = reads.went.source;
          short = behind.short;
          decided = ap (lines_of MAX_TEXT_LINES false 0) (sym (append-nil reads.all))
              ∙ behind.lines false [] follows
              ∙ ap (λ (k : ℕ). reads.cuts ++ lines_of k false r.line (r.pending ++ [])) (sym behind.most)
              ∙ ap (λ (cs : List Cut). reads.cuts ++ cs) h.1
              ∙ append-nil reads.cuts;
        },
        reads.written,
      )
  no_line_came before left held now r WriteFault reads h = absurd h
  no_line_came before left held now r NoMemory reads h = (
    reads.cuts,
    record {
      all = reads.all;
      ended = r.ended;
      went = reads.went;
      starts = starts_so_far reads.cuts reads.all r reads.behind;
    },
    subst (AppendsUpTo held now) (append-nil (written_text f reads.cuts))
        (up_to_behind held now now (written_text f reads.cuts) [] reads.written (record { count = 0; appended = Appends-nil now })),
  )

  pub all_put : (before left held now : Option (List ℕ)) (r : Reading) → Reads f before left held now r → Reaches r None
      → (cuts : List Cut) × IsAll before left cuts × Appends held now (written_text f cuts)
  all_put before left held now r reads reaches =
      let behind = reads.behind in (
        reads.cuts,
        record {
          all = reads.all;
          went = subst (Went before left reads.all) reaches.0 reads.went;
          lines = all_lines reads.cuts reads.all r behind reaches.0 reaches.1;
          short = behind.short;
          few = behind.few;
        },
        reads.written,
      )
