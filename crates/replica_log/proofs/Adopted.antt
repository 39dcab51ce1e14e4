-- What a log is after another one was taken, or laid over it.
use Rattle.std.proofs.Common.{◌≡◌, ℕ, zero, suc, ◌+◌, ◌<◌, ◌≤◌, Bool, true, false, cond, List, [], ◌∷◌, ◌++◌, length, take, drop, max, refl, sym, ap, ◌∙◌, arith}
use Rattle.std.proofs.Common.{length-append}
use Rattle.std.specs.Prelude.{◌-◌, nat_lt, slice_get}
use Rattle.std.proofs.lemmas.Bool.{ltb-true, ltb-false, lt-ltb, le-ltb}
use Rattle.std.proofs.lemmas.List.{length-take-le, length-drop, take-append-drop, drop_all}
use Rattle.nop_types.specs.declared.request.Entry.{Entry}
use Rattle.nop_types.specs.Lists.{slot_of}
use Rattle.nop_types.specs.Logs.{Log, Whole, Trimmed, length_of, above, further, adopted, overlaid, IsWithin}
use Rattle.nop_types.specs.Slots.{laid}
use Rattle.lemmas.proofs.Slots.{laid-append, length-laid, laid-shorter}

-- ---- the further one

further_point : (new own : Log) (b : Bool) → nat_lt own.sync_point new.sync_point ≡ b
    → (cond b new own).sync_point ≡ max own.sync_point new.sync_point
further_point new own true e = omega (arith, ltb-true own.sync_point new.sync_point e)
further_point new own false e = omega (arith, ltb-false own.sync_point new.sync_point e)

further_within : (new own : Log) (b : Bool) → IsWithin new → IsWithin own → IsWithin (cond b new own)
further_within new own true c d = c
further_within new own false c d = d

-- in either reading
pub adopted_point : (new own : Log) → (adopted Whole new own).sync_point ≡ max own.sync_point new.sync_point
adopted_point new own = further_point new own (nat_lt own.sync_point new.sync_point) refl

pub overlaid_point : (new own : Log) → (overlaid Whole new own).sync_point ≡ max own.sync_point new.sync_point
overlaid_point new own = further_point new own (nat_lt own.sync_point new.sync_point) refl

-- ---- the front of one list, and what another one has above

pub length-spliced : (n : ℕ) (own l : List Entry) → n ≤ length own → length (take n own ++ drop n l) ≡ n + (length l - n)
length-spliced n own l h =
    let both = length-append (take n own) (drop n l) in
    let prefix = length-take-le n own h in
    let rest = length-drop n l in
    omega (arith, both, prefix, rest)

place_below : (n i : ℕ) (own rest : List Entry) → i < n → n ≤ length own → slice_get (take n own ++ rest) i ≡ slice_get own i
place_below zero i own rest less low = absurd (omega (arith, less))
place_below (suc n) i [] rest less low = absurd (omega (arith, low))
place_below (suc n) zero (y ∷ own) rest less low = refl
place_below (suc n) (suc i) (y ∷ own) rest less low = place_below n i own rest (omega (arith, less)) (omega (arith, low))

place_above : (n i : ℕ) (own l : List Entry) → n ≤ i → n ≤ length own → slice_get (take n own ++ drop n l) i ≡ slice_get l i
place_above zero i own l high low = refl
place_above (suc n) i [] l high low = absurd (omega (arith, low))
place_above (suc n) zero (y ∷ own) l high low = absurd (omega (arith, high))
place_above (suc n) (suc i) (y ∷ own) [] high low =
    ap (λ (t : List Entry). slice_get (take n own ++ t) i) (sym (drop_all n [] (omega arith)))
    ∙ place_above n i own [] (omega (arith, high)) (omega (arith, low))
place_above (suc n) (suc i) (y ∷ own) (x ∷ l) high low = place_above n i own l (omega (arith, high)) (omega (arith, low))

spliced_below : (n : ℕ) (own l : List Entry) (i : ℕ) → n ≤ length own → i ≤ n → slot_of (take n own ++ drop n l) i ≡ slot_of own i
spliced_below n own l zero low le = refl
spliced_below n own l (suc i) low le = place_below n i own (drop n l) (omega (arith, le)) low

spliced_above : (n : ℕ) (own l : List Entry) (i : ℕ) → n ≤ length own → n < i → slot_of (take n own ++ drop n l) i ≡ slot_of l i
spliced_above n own l zero low less = absurd (omega (arith, less))
spliced_above n own l (suc i) low less = place_above n i own l (omega (arith, less)) low

-- ---- a whole log is taken

abbrev taken_by : Log → Log → Bool → List Entry
taken_by new own b = take (cond b new own).sync_point (cond b new own).entries ++ drop (cond b new own).sync_point new.entries

-- where the other log's sync point is greater, all is the other log's
pub adopted_further : (new own : Log) → own.sync_point < new.sync_point → (adopted Whole new own).entries ≡ new.entries
adopted_further new own h =
    ap (taken_by new own) (lt-ltb own.sync_point new.sync_point h) ∙ take-append-drop new.sync_point new.entries

-- else what it has above the own sync point
pub adopted_near : (new own : Log) → new.sync_point ≤ own.sync_point
    → (adopted Whole new own).entries ≡ take own.sync_point own.entries ++ drop own.sync_point new.entries
adopted_near new own h = ap (taken_by new own) (le-ltb own.sync_point new.sync_point h)

pub length-adopted : (new own : Log) → IsWithin own → IsWithin new
    → length (adopted Whole new own).entries ≡ max own.sync_point (length new.entries)
length-adopted new own h g = by (nat_lt own.sync_point new.sync_point) refl
  where
    by : (b : Bool) → nat_lt own.sync_point new.sync_point ≡ b
        → length (adopted Whole new own).entries ≡ max own.sync_point (length new.entries)
    by true e =
        let less = ltb-true own.sync_point new.sync_point e in
        omega (arith, less, g, ap (λ (t : List Entry). length t) (adopted_further new own less))
    by false e =
        let near = adopted_near new own (ltb-false own.sync_point new.sync_point e) in
        omega (arith, h, ap (λ (t : List Entry). length t) near, length-spliced own.sync_point own.entries new.entries h)

pub adopted_below : (new own : Log) (i : ℕ) → IsWithin own → new.sync_point ≤ own.sync_point → i ≤ own.sync_point
    → slot_of (adopted Whole new own).entries i ≡ slot_of own.entries i
adopted_below new own i h le low =
    ap (λ (t : List Entry). slot_of t i) (adopted_near new own le) ∙ spliced_below own.sync_point own.entries new.entries i h low

pub adopted_above : (new own : Log) (i : ℕ) → IsWithin own → own.sync_point < i
    → slot_of (adopted Whole new own).entries i ≡ slot_of new.entries i
adopted_above new own i h less = by (nat_lt own.sync_point new.sync_point) refl
  where
    by : (b : Bool) → nat_lt own.sync_point new.sync_point ≡ b → slot_of (adopted Whole new own).entries i ≡ slot_of new.entries i
    by true e = ap (λ (t : List Entry). slot_of t i) (adopted_further new own (ltb-true own.sync_point new.sync_point e))
    by false e =
        ap (λ (t : List Entry). slot_of t i) (adopted_near new own (ltb-false own.sync_point new.sync_point e))
        ∙ spliced_above own.sync_point own.entries new.entries i h less

-- ---- it is laid over the own one

laid_behind : (prefix l own : List Entry) → laid (prefix ++ l) own ≡ prefix ++ laid l (drop (length prefix) own)
laid_behind [] l own = refl
laid_behind (x ∷ prefix) l [] = ap (λ (t : List Entry). x ∷ prefix ++ t) (sym (laid-shorter l [] (omega arith)))
laid_behind (x ∷ prefix) l (y ∷ own) = ap (λ (t : List Entry). x ∷ t) (laid_behind prefix l own)

overlaid_by : (n : ℕ) (prefix l own : List Entry) → n ≤ length prefix
    → take n prefix ++ laid (drop n l) (drop n own) ≡ laid (take n prefix ++ drop n l) own
overlaid_by n prefix l own h =
    ap (λ (i : ℕ). take n prefix ++ laid (drop n l) (drop i own)) (sym (length-take-le n prefix h))
    ∙ sym (laid_behind (take n prefix) (drop n l) own)

pub overlaid_parts : (new own : Log) → IsWithin own → IsWithin new
    → (overlaid Whole new own).entries ≡ laid (adopted Whole new own).entries own.entries
overlaid_parts new own h g =
    let f : Log = further new own in
    overlaid_by f.sync_point f.entries new.entries own.entries (further_within new own (nat_lt own.sync_point new.sync_point) g h)

pub length-overlaid : (new own : Log) → IsWithin own → IsWithin new
    → length (overlaid Whole new own).entries ≡ max (length own.entries) (length new.entries)
length-overlaid new own h g =
    let parts = ap (λ (t : List Entry). length t) (overlaid_parts new own h g) in
    omega (arith, h, parts, length-laid (adopted Whole new own).entries own.entries, length-adopted new own h g)

-- ---- a trimmed log is taken, or laid over the own one

-- the entries of a trimmed log begin above its sync point
begins : (n : ℕ) → n - n ≡ 0
begins n = omega arith

pub trimmed_adopted : (new own : Log)
    → let g : Log = further new own in record g { entries = above Trimmed new g.sync_point } ≡ adopted Trimmed new own
trimmed_adopted new own =
    let g : Log = further new own in
    ap (λ (n : ℕ). record g { entries = take n g.entries ++ above Trimmed new g.sync_point }) (sym (begins g.sync_point))

pub trimmed_overlaid : (new own : Log)
    → let g : Log = further new own in
    record g { entries = laid (above Trimmed new g.sync_point) (above Trimmed own g.sync_point) } ≡ overlaid Trimmed new own
trimmed_overlaid new own =
    let g : Log = further new own in
    let over = laid (above Trimmed new g.sync_point) (above Trimmed own g.sync_point) in
    ap (λ (n : ℕ). record g { entries = take n g.entries ++ over }) (sym (begins g.sync_point))

-- the entries above the sync point, laid over one by one
pub trimmed_laid_over : (new own : Log)
    → let g : Log = further new own in
    let more = above Trimmed new g.sync_point in
    record g { entries = more ++ drop (length more) (above Trimmed own g.sync_point) } ≡ overlaid Trimmed new own
trimmed_laid_over new own =
    let g : Log = further new own in
    ap (λ (t : List Entry). record g { entries = t }) (sym (laid-append (above Trimmed new g.sync_point) (above Trimmed own g.sync_point)))
    ∙ trimmed_overlaid new own

pub length-trimmed_adopted : (new own : Log) → length_of Trimmed (adopted Trimmed new own) ≡ max own.sync_point (length_of Trimmed new)
length-trimmed_adopted new own =
    let g : Log = further new own in
    let len = ap (λ (l : Log). length l.entries) (trimmed_adopted new own) in
    omega (arith, len, adopted_point new own, length-drop (g.sync_point - new.sync_point) new.entries)

pub length-trimmed_overlaid : (new own : Log)
    → length_of Trimmed (overlaid Trimmed new own) ≡ max (length_of Trimmed own) (length_of Trimmed new)
length-trimmed_overlaid new own =
    let g : Log = further new own in
    let len = ap (λ (l : Log). length l.entries) (trimmed_overlaid new own) in
    omega (
      arith,
      len,
      adopted_point new own,
      length-laid (above Trimmed new g.sync_point) (above Trimmed own g.sync_point),
      length-drop (g.sync_point - new.sync_point) new.entries,
      length-drop (g.sync_point - own.sync_point) own.entries,
    )
