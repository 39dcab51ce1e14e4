-- What a cluster writes, piece by piece.
use Rattle.std.proofs.Common.{◌≡◌, ◌<◌, ◌+◌, ℕ, List, [], ◌∷◌, ◌++◌, append_assoc, append-nil, ap, get_or, length, subst, sym, take, ◌∙◌}
use Rattle.std.specs.List.{All, flat_map}
use Rattle.std.proofs.lemmas.List.{take_more}
use Rattle.std.proofs.lemmas.List.Concat.{flat_map-append}
use Rattle.std.proofs.lemmas.List.Elements.{All-more}
use Rattle.nop_types.specs.Configuration.{Configuration}
use Rattle.schedule_text.specs.declared.event.Event.{Event}
use Rattle.transcript_text.specs.Transcript.{transcript_line}
use Rattle.world.specs.Ending.{final_text}
use Rattle.world.specs.WorldSteps.{WorldState}
use Rattle.schedule_text.specs.EventText.{Means, event_text}
use Rattle.printed_runs.specs.Printing.{event_line, printed}
use Rattle.trace_text.specs.Traces.{header_line}
use Rattle.one_box.specs.Text.{IsReadBack, transcript_of, served_line, cluster_text}

-- ---- events, one after the other

read_back : (e : Event) → Means (event_text e) e → IsReadBack e
unfolding IsReadBack
read_back e means = means

module _ (es : List Event) (i : ℕ) (e : Event) (within : i < length es) (is : e ≡ get_or es i e) where
  pub one_put : (old mid last : List ℕ) → mid ≡ old ++ flat_map event_line (take i es) → last ≡ mid ++ (event_text e ++ 10 ∷ [])
      → last ≡ old ++ flat_map event_line (take (i + 1) es)
  one_put old mid last before put =
      let so_far : List ℕ = flat_map event_line (take i es) in
      let one : take (i + 1) es ≡ take i es ++ e ∷ [] =
      take_more es i e within ∙ ap (λ (x : Event). take i es ++ x ∷ []) (sym is) in
      let more : flat_map event_line (take (i + 1) es) ≡ so_far ++ event_line e =
      ap (flat_map event_line) one ∙ flat_map-append event_line (take i es) (e ∷ [])
      ∙ ap (λ (xs : List ℕ). so_far ++ xs) (append-nil (event_line e)) in
      put ∙ ap (λ (xs : List ℕ). xs ++ event_line e) before ∙ append_assoc old so_far (event_line e)
      ∙ ap (λ (xs : List ℕ). old ++ xs) (sym more)

  pub one_read_back : All IsReadBack (take i es) → Means (event_text e) e → All IsReadBack (take (i + 1) es)
  one_read_back before means = All-more IsReadBack es i e within before (subst IsReadBack is (read_back e means))

-- ---- all of it

joined : (a h es t x f s : List ℕ) → (((((a ++ h) ++ es) ++ t) ++ x) ++ f) ++ s ≡ a ++ ((h ++ es) ++ ((t ++ (x ++ f)) ++ s))
joined a h es t x f s = simp append_assoc

pub all_put : (config : Configuration) (es : List Event) (text : List ℕ) (w : WorldState) (turns lost stray : ℕ) (a b c d e f g : List ℕ)
    → b ≡ a ++ header_line 1 config → c ≡ b ++ flat_map event_line es → d ≡ c ++ transcript_line 1 config → e ≡ d ++ text
    → f ≡ e ++ final_text w → g ≡ f ++ served_line turns lost stray → g ≡ a ++ cluster_text config es text w turns lost stray
unfolding cluster_text printed transcript_of
all_put config es text w turns lost stray a b c d e f g hb hc hd he hf hg =
    let s = served_line turns lost stray in
    hg
    ∙ ap (λ (z : List ℕ). z ++ s)
    (hf ∙ ap (λ (z : List ℕ). z ++ final_text w)
    (he ∙ ap (λ (z : List ℕ). z ++ text)
    (hd ∙ ap (λ (z : List ℕ). z ++ transcript_line 1 config)
    (hc ∙ ap (λ (z : List ℕ). z ++ flat_map event_line es) hb))))
    ∙ joined a (header_line 1 config) (flat_map event_line es) (transcript_line 1 config) text (final_text w) s

labels_joined : (a k d l e m f x : List ℕ) → (((a ++ (k ++ d)) ++ (l ++ e)) ++ (m ++ f)) ++ x ≡ a ++ (k ++ d ++ l ++ e ++ m ++ f ++ x)
labels_joined a k d l e m f x = simp append_assoc

pub labelled : (a k d l e m f x b c g h : List ℕ) → b ≡ a ++ (k ++ d) → c ≡ b ++ (l ++ e) → g ≡ c ++ (m ++ f) → h ≡ g ++ x
    → h ≡ a ++ (k ++ d ++ l ++ e ++ m ++ f ++ x)
labelled a k d l e m f x b c g h hb hc hg hh =
    hh ∙ ap (λ (z : List ℕ). z ++ x) (hg ∙ ap (λ (z : List ℕ). z ++ (m ++ f)) (hc ∙ ap (λ (z : List ℕ). z ++ (l ++ e)) hb))
    ∙ labels_joined a k d l e m f x
