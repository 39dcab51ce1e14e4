-- A core that stands at a place.
use Rattle.std.proofs.Common.{append-nil, ◌++◌, ◌≡◌, ℕ, ◌<◌, ◌≤◌, List, [], length, Option, Some, None, slice_index_or, slice_set, sym, ap, ◌∙◌}
use Rattle.std.specs.Prelude.{slice_get}
use Rattle.std.proofs.lemmas.Option.{slice_get-get_or, slice_get_past}
use Rattle.desk.specs.Desks.{changed_at, changed_if, told_at, told_if}
use Rattle.desk.specs.declared.submitter.Labelled.{Labelled}
use Rattle.desk.specs.declared.submitter.Submitter.{Submitter}

stands : (cores : List Submitter) (i : ℕ) (s : Submitter) → i < length cores → s ≡ slice_index_or cores i s → slice_get cores i ≡ Some s
stands cores i s l e = slice_get-get_or cores i s l ∙ ap (λ (c : Submitter). Some c) (sym e)

pub changed_here : (cores : List Submitter) (i : ℕ) (f : Submitter → Submitter) (s t : Submitter) → i < length cores
    → s ≡ slice_index_or cores i s → t ≡ f s → slice_set cores i t ≡ changed_at i cores f
changed_here cores i f s t l e g =
    ap (λ (c : Submitter). slice_set cores i c) g ∙ ap (λ (o : Option Submitter). changed_if o i cores f) (sym (stands cores i s l e))

pub told_here : (cores : List Submitter) (i : ℕ) (f : Submitter → List Labelled) (s : Submitter) → i < length cores
    → s ≡ slice_index_or cores i s → f s ≡ told_at i cores f
told_here cores i f s l e = ap (λ (o : Option Submitter). told_if o f) (sym (stands cores i s l e))

pub changed_past : (cores : List Submitter) (i : ℕ) (f : Submitter → Submitter) → length cores ≤ i → changed_at i cores f ≡ cores
changed_past cores i f l = ap (λ (o : Option Submitter). changed_if o i cores f) (slice_get_past cores i l)

pub told_past : (cores : List Submitter) (i : ℕ) (f : Submitter → List Labelled) → length cores ≤ i → told_at i cores f ≡ []
told_past cores i f l = ap (λ (o : Option Submitter). told_if o f) (slice_get_past cores i l)

pub none_past : (told : List Labelled) (cores : List Submitter) (i : ℕ) (f : Submitter → List Labelled) → length cores ≤ i
    → told ≡ told ++ told_at i cores f
none_past told cores i f l = sym (ap (λ (more : List Labelled). told ++ more) (told_past cores i f l) ∙ append-nil told)
