-- What lines say is what the list says: each name once, each address once.
use Rattle.std.proofs.Common.{◌≡◌, ◌≢◌, ℕ, zero, suc, ◌+◌, ◌<◌, Bool, true, false, cond, List, [], ◌∷◌, length, Option, Some, None, Ok, Err}
use Rattle.std.proofs.Common.{refl, sym, ap, ◌∙◌, subst, arith, inl, inr}
use Rattle.std.specs.Prelude.{◌⊎◌, ◌%◌, Result, codes, is_some, nat_lt, option_and_then, slice_get, slice_set}
use Rattle.std.proofs.lemmas.Bool.{ltb-true}
use Rattle.std.proofs.lemmas.List.{length-set}
use Rattle.std.specs.declared.net.socket_addr.SocketAddr.{SocketAddr}
use Rattle.nop_types.specs.Configuration.{is_configuration}
use Rattle.nop_types.specs.declared.output.Actor.{Actor}
use Rattle.nop_types.specs.declared.output.Actor.TheVariants.{Replica, Sequencer, Client, Controller, Observer}
use Rattle.line_fields.specs.Fields.{actor_of, is_text, number_of}
use Rattle.lemmas.proofs.Members.{Has-first, Has-rest}
use Rattle.host_list.specs.declared.entry.Entry.{Entry}
use Rattle.host_list.specs.declared.entry.Entry.TheVariants as entries
use Rattle.host_list.specs.declared.found.Found.{Found}
use Rattle.host_list.specs.declared.list.HostList.{HostList}
use Rattle.host_list.specs.declared.places.TheConstants.{PLACES}
use Rattle.host_list.specs.declared.rule.Refusal.{Refusal}
use Rattle.host_list.specs.declared.rule.Rule.{Rule}
use Rattle.host_list.specs.declared.rule.Rule.TheVariants as rules
use Rattle.host_list.specs.Addresses.{address_of, same_address}
use Rattle.host_list.specs.Lists.{IsOnLine, address_with}
use Rattle.host_list.specs.Places.{Addresses, address_at, counts_of, has_address, most, named, place_of, place_within}
use Rattle.host_list.specs.Reading.{◌>>=◌, any_hole, cluster_entry, completed, entry_of, entry_of_words, host_entry, list_in, list_of}
use Rattle.host_list.specs.Reading.{nothing, or_rule, refused_at, with_cluster, with_entry, with_host, with_lines}
use Rattle.host_list.specs.Words.{lines_of, words_of}
use Rattle.host_list.proofs.Tables.{none_at, other_at, same_address-refl, same_or_not, written_here, written_other}

-- ---- lines without their numbers

-- from the one to the other by these lines
abbrev pub Takes : Found → List (List ℕ) → Found → Type 0
Takes f [] g = f ≡ g
Takes f (line ∷ lines) g = (e : Entry) × (h : Found) × (entry_of line ≡ Ok e) × (with_entry f e ≡ Ok h) × Takes h lines g

entry_taken : (o : Result Found Rule) (n : ℕ) (lines : List (List ℕ)) (g : Found)
    → (refused_at n o >>= λ h. with_lines h (n + 1) lines) ≡ Ok g
    → (h : Found) × (o ≡ Ok h) × (with_lines h (n + 1) lines ≡ Ok g)
entry_taken (Ok h) n lines g all = (h, refl, all)
entry_taken (Err r) n lines g all = absurd cc

line_taken : (q : Result Entry Rule) (f : Found) (n : ℕ) (lines : List (List ℕ)) (g : Found)
    → (refused_at n (q >>= with_entry f) >>= λ h. with_lines h (n + 1) lines) ≡ Ok g
    → (e : Entry) × (h : Found) × (q ≡ Ok e) × (with_entry f e ≡ Ok h) × (with_lines h (n + 1) lines ≡ Ok g)
line_taken (Ok e) f n lines g all = let t = entry_taken (with_entry f e) n lines g all in (e, t.0, refl, t.1, t.2)
line_taken (Err r) f n lines g all = absurd cc

pub takes_from : (f : Found) (n : ℕ) (lines : List (List ℕ)) (g : Found) → with_lines f n lines ≡ Ok g → Takes f lines g
takes_from f n [] g all = cc
takes_from f n (line ∷ lines) g all =
    let t = line_taken (entry_of line) f n lines g all in
    (t.0, t.1, t.2, t.3, takes_from t.1 (n + 1) lines g t.4)

pub takes_to : (f : Found) (n : ℕ) (lines : List (List ℕ)) (g : Found) → Takes f lines g → with_lines f n lines ≡ Ok g
takes_to f n [] g same = ap Ok same
takes_to f n (line ∷ lines) g (e, h, is, made, rest) =
    ap (λ (q : Result Entry Rule). refused_at n (q >>= with_entry f) >>= λ k. with_lines k (n + 1) lines) is
    ∙ ap (λ (o : Result Found Rule). refused_at n o >>= λ k. with_lines k (n + 1) lines) made
    ∙ takes_to h (n + 1) lines g rest

-- ---- a list and what was found

-- the list is what was found
pub record Lists (f : Found) (l : HostList) : Type 0 where
  pub cluster : f.cluster ≡ Some l.cluster
  pub addresses : l.addresses ≡ f.addresses

by_count : (b : Bool) (xs : Addresses) (n : ℕ) (l : HostList)
    → cond b (Ok (record { cluster = n; config = counts_of xs; addresses = xs })) (Err rules.WrongCount) ≡ Ok l
    → (l.cluster ≡ n) × (l.addresses ≡ xs)
by_count true xs n l e = (let k : n ≡ l.cluster = cc in sym k, let k : xs ≡ l.addresses = cc in sym k)
by_count false xs n l e = absurd cc

by_hole : (b : Bool) (xs : Addresses) (n : ℕ) (l : HostList)
    → cond b (Err rules.Hole)
    (cond (is_configuration (counts_of xs)) (Ok (record { cluster = n; config = counts_of xs; addresses = xs })) (Err rules.WrongCount))
    ≡ Ok l → (l.cluster ≡ n) × (l.addresses ≡ xs)
by_hole true xs n l e = absurd cc
by_hole false xs n l e = by_count (is_configuration (counts_of xs)) xs n l e

by_cluster : (o : Option ℕ) (xs : Addresses) (l : HostList) → completed (record { cluster = o; addresses = xs }) ≡ Ok l
    → (o ≡ Some l.cluster) × (l.addresses ≡ xs)
by_cluster None xs l e = absurd cc
by_cluster (Some n) xs l e = let k = by_hole (any_hole xs) xs n l e in (ap Some (sym k.0), k.1)

pub lists_found : (f : Found) (l : HostList) → completed f ≡ Ok l → Lists f l
lists_found f l e = let k = by_cluster f.cluster f.addresses l e in record { cluster = k.0; addresses = k.1 }

-- what was found in the lines of a list
pub record IsRead (lines : List (List ℕ)) (l : HostList) : Type 0 where
  pub found : Found
  pub takes : Takes nothing lines found
  pub completed : completed found ≡ Ok l

completed_by : (o : Result HostList Rule) (f : Found) (n : ℕ) (l : HostList) → completed f ≡ o → refused_at n o ≡ Ok l → completed f ≡ Ok l
completed_by (Ok x) f n l is e = let same : x ≡ l = cc in is ∙ ap Ok same
completed_by (Err r) f n l is e = absurd cc

read_by : (o : Result Found Refusal) (lines : List (List ℕ)) (l : HostList) → with_lines nothing 1 lines ≡ o
    → (o >>= λ f. refused_at (length lines) (completed f)) ≡ Ok l → IsRead lines l
read_by (Ok f) lines l is e =
    record {
      found = f;
      takes = takes_from nothing 1 lines f is;
      completed = completed_by (completed f) f (length lines) l refl e;
    }
read_by (Err r) lines l is e = absurd cc

pub is_read : (lines : List (List ℕ)) (l : HostList) → list_in lines ≡ Ok l → IsRead lines l
is_read lines l e = read_by (with_lines nothing 1 lines) lines l refl e

pub reads_back : (lines : List (List ℕ)) (l : HostList) → IsRead lines l → list_in lines ≡ Ok l
reads_back lines l r =
    ap (λ (o : Result Found Refusal). o >>= λ f. refused_at (length lines) (completed f)) (takes_to nothing 1 lines r.found r.takes)
    ∙ ap (λ (o : Result HostList Rule). refused_at (length lines) o) r.completed

-- ---- places are within the table

within_by : (b : Bool) (first count number p : ℕ) → nat_lt number count ≡ b → cond b (Some (first + number)) None ≡ Some p → p < first + count
within_by true first count number p t e = let k : first + number ≡ p = cc in omega (arith, k, ltb-true number count t)
within_by false first count number p t e = absurd cc

within_count : (first count number p : ℕ) → place_within first count number ≡ Some p → p < first + count
within_count first count number p e = within_by (nat_lt number count) first count number p refl e

place_within_table : (a : Actor) (p : ℕ) → place_of a ≡ Some p → p < PLACES
place_within_table (Replica i) p e = omega (arith, within_count 0 7 i p e)
place_within_table (Sequencer i) p e = omega (arith, within_count 8 4 i p e)
place_within_table (Controller i) p e = omega (arith, within_count 12 4 i p e)
place_within_table (Client i) p e = let k : 16 + i % 16 ≡ p = cc in omega (arith, k)
place_within_table (Observer i) p e = omega (arith, within_count 32 4 i p e)

-- an entry's place is in the table
abbrev pub IsPlaced : Entry → Type 0
IsPlaced (entries.Host place a) = place < PLACES
IsPlaced _ = Unit {0}

named_placed : (o : Option Actor) (p : ℕ) → option_and_then place_of o ≡ Some p → p < PLACES
named_placed None p e = absurd cc
named_placed (Some a) p e = place_within_table a p e

host_placed : (o : Option SocketAddr) (place p : ℕ) (a : SocketAddr) → place < PLACES
    → or_rule rules.WrongAddress o >>= (λ x. Ok (entries.Host place x)) ≡ Ok (entries.Host p a) → p < PLACES
host_placed None place p a l e = absurd cc
host_placed (Some x) place p a l e = let same : place ≡ p = cc in omega (arith, same)

name_placed : (o : Option ℕ) (value : List ℕ) (p : ℕ) (a : SocketAddr) → ((place : ℕ) → o ≡ Some place → place < PLACES)
    → or_rule rules.WrongName o >>= (λ place. host_entry place value) ≡ Ok (entries.Host p a) → p < PLACES
name_placed None value p a within e = absurd cc
name_placed (Some place) value p a within e = host_placed (address_of value) place p a (within place refl) e

number_no_host : (o : Option ℕ) (p : ℕ) (a : SocketAddr)
    → or_rule rules.WrongNumber o >>= (λ n. Ok (entries.Cluster n)) ≡ Ok (entries.Host p a) → ⊥
number_no_host None p a e = cc
number_no_host (Some n) p a e = cc

two_placed : (b : Bool) (name value : List ℕ) (p : ℕ) (a : SocketAddr)
    → cond b (cluster_entry value) (or_rule rules.WrongName (named name) >>= λ place. host_entry place value) ≡ Ok (entries.Host p a)
    → p < PLACES
two_placed true name value p a e = absurd (number_no_host (number_of value) p a e)
two_placed false name value p a e = name_placed (named name) value p a (λ place k. named_placed (actor_of most name) place k) e

words_placed : (words : List (List ℕ)) (p : ℕ) (a : SocketAddr) → entry_of_words words ≡ Ok (entries.Host p a) → p < PLACES
words_placed [] p a e = absurd cc
words_placed (name ∷ []) p a e = absurd cc
words_placed (name ∷ value ∷ []) p a e = two_placed (is_text (codes "cluster") name) name value p a e
words_placed (name ∷ value ∷ more ∷ rest) p a e = absurd cc

pub host_within : (line : List ℕ) (p : ℕ) (a : SocketAddr) → entry_of line ≡ Ok (entries.Host p a) → p < PLACES
unfolding entry_of
host_within line p a e = words_placed (words_of line) p a e

-- ---- what one entry does

-- a host was put at a free place, and its address was nobody's
pub record Puts (f : Found) (p : ℕ) (a : SocketAddr) (g : Found) : Type 0 where
  pub free : address_at f.addresses p ≡ None
  pub new : has_address f.addresses a ≡ false
  pub is : g ≡ record f { addresses = slice_set f.addresses p (Some a) }

free_by : (o : Option SocketAddr) → is_some o ≡ false → o ≡ None
free_by None e = refl
free_by (Some a) e = absurd cc

puts_new : (b : Bool) (f : Found) (p : ℕ) (a : SocketAddr) (g : Found) → has_address f.addresses a ≡ b → address_at f.addresses p ≡ None
    → cond b (Err rules.AddressTwice) (Ok (record f { addresses = slice_set f.addresses p (Some a) })) ≡ Ok g → Puts f p a g
puts_new true f p a g t free e = absurd cc
puts_new false f p a g t free e = record { free = free; new = t; is = let k : record f { addresses = slice_set f.addresses p (Some a) } ≡ g = cc in sym k }

puts_by : (b : Bool) (f : Found) (p : ℕ) (a : SocketAddr) (g : Found) → is_some (address_at f.addresses p) ≡ b
    → cond b (Err rules.NameTwice)
    (cond (has_address f.addresses a) (Err rules.AddressTwice) (Ok (record f { addresses = slice_set f.addresses p (Some a) })))
    ≡ Ok g → Puts f p a g
puts_by true f p a g t e = absurd cc
puts_by false f p a g t e = puts_new (has_address f.addresses a) f p a g refl (free_by (address_at f.addresses p) t) e

pub puts : (f : Found) (p : ℕ) (a : SocketAddr) (g : Found) → with_host f p a ≡ Ok g → Puts f p a g
puts f p a g e = puts_by (is_some (address_at f.addresses p)) f p a g refl e

pub puts_back : (f : Found) (p : ℕ) (a : SocketAddr) (g : Found) → Puts f p a g → with_host f p a ≡ Ok g
puts_back f p a g h =
    let put : Result Found Rule = Ok (record f { addresses = slice_set f.addresses p (Some a) }) in
    ap
    (λ (o : Option SocketAddr). cond (is_some o) (Err rules.NameTwice)
    (cond (has_address f.addresses a) (Err rules.AddressTwice) put)) h.free
    ∙ ap (λ (b : Bool). cond b (Err rules.AddressTwice) put) h.new
    ∙ ap Ok (sym h.is)

-- a cluster number was put where there was none
pub record Counts (f : Found) (n : ℕ) (g : Found) : Type 0 where
  pub free : f.cluster ≡ None
  pub is : g ≡ record f { cluster = Some n }

counts_by : (o : Option ℕ) (f : Found) (n : ℕ) (g : Found) → f.cluster ≡ o
    → cond (is_some o) (Err rules.NameTwice) (Ok (record f { cluster = Some n })) ≡ Ok g → Counts f n g
counts_by None f n g t e = record { free = t; is = let k : record f { cluster = Some n } ≡ g = cc in sym k }
counts_by (Some m) f n g t e = absurd cc

pub counts : (f : Found) (n : ℕ) (g : Found) → with_cluster f n ≡ Ok g → Counts f n g
counts f n g e = counts_by f.cluster f n g refl e

pub counts_back : (f : Found) (n : ℕ) (g : Found) → Counts f n g → with_cluster f n ≡ Ok g
counts_back f n g h =
    ap (λ (o : Option ℕ). cond (is_some o) (Err rules.NameTwice) (Ok (record f { cluster = Some n }))) h.free
    ∙ ap Ok (sym h.is)

-- ---- the table keeps its length

pub entry_length : (f : Found) (e : Entry) (g : Found) → with_entry f e ≡ Ok g → length g.addresses ≡ length f.addresses
entry_length f entries.Blank g made = let k : f ≡ g = cc in ap (λ (x : Found). length x.addresses) (sym k)
entry_length f (entries.Cluster n) g made = ap (λ (x : Found). length x.addresses) (counts f n g made).is
entry_length f (entries.Host p a) g made =
    ap (λ (x : Found). length x.addresses) (puts f p a g made).is ∙ length-set f.addresses p (Some a)

-- ---- what is there stays

pub entry_keeps : (f : Found) (e : Entry) (g : Found) (p : ℕ) (a : SocketAddr) → with_entry f e ≡ Ok g
    → address_at f.addresses p ≡ Some a → address_at g.addresses p ≡ Some a
entry_keeps f entries.Blank g p a made at =
    let k : f ≡ g = cc in subst (λ (x : Found). address_at x.addresses p ≡ Some a) k at
entry_keeps f (entries.Cluster n) g p a made at =
    subst (λ (x : Found). address_at x.addresses p ≡ Some a) (sym (counts f n g made).is) at
entry_keeps f (entries.Host q b) g p a made at =
    let h = puts f q b g made in
    let other : p ≢ q = λ same. (let k : address_at f.addresses q ≡ Some a = subst (λ (x : ℕ). address_at f.addresses x ≡ Some a) same at in
    let j = h.free in cc) in
    subst (λ (x : Found). address_at x.addresses p ≡ Some a) (sym h.is) (written_other f.addresses q p (Some b) other ∙ at)

pub lines_keep : (f : Found) (lines : List (List ℕ)) (g : Found) (p : ℕ) (a : SocketAddr) → Takes f lines g
    → address_at f.addresses p ≡ Some a → address_at g.addresses p ≡ Some a
lines_keep f [] g p a same at = subst (λ (x : Found). address_at x.addresses p ≡ Some a) same at
lines_keep f (line ∷ lines) g p a (e, h, is, made, rest) at = lines_keep h lines g p a rest (entry_keeps f e h p a made at)

cluster_keeps : (f : Found) (e : Entry) (g : Found) (n : ℕ) → with_entry f e ≡ Ok g → f.cluster ≡ Some n → g.cluster ≡ Some n
cluster_keeps f entries.Blank g n made at = let k : f ≡ g = cc in subst (λ (x : Found). x.cluster ≡ Some n) k at
cluster_keeps f (entries.Cluster m) g n made at = absurd (let k = (counts f m g made).free in cc)
cluster_keeps f (entries.Host q b) g n made at = subst (λ (x : Found). x.cluster ≡ Some n) (sym (puts f q b g made).is) at

clusters_keep : (f : Found) (lines : List (List ℕ)) (g : Found) (n : ℕ) → Takes f lines g → f.cluster ≡ Some n → g.cluster ≡ Some n
clusters_keep f [] g n same at = subst (λ (x : Found). x.cluster ≡ Some n) same at
clusters_keep f (line ∷ lines) g n (e, h, is, made, rest) at = clusters_keep h lines g n rest (cluster_keeps f e h n made at)

-- ---- what a line says is in the list

same_entry : (line : List ℕ) (d e : Entry) → entry_of line ≡ Ok d → entry_of line ≡ Ok e → d ≡ e
same_entry line d e x y = let k : Ok d ≡ Ok e = sym x ∙ y in cc

put_there : (f : Found) (p : ℕ) (a : SocketAddr) (g : Found) → p < length f.addresses → with_host f p a ≡ Ok g
    → address_at g.addresses p ≡ Some a
put_there f p a g l made =
    subst (λ (x : Found). address_at x.addresses p ≡ Some a) (sym (puts f p a g made).is) (written_here f.addresses p (Some a) l)

pub host_is_kept : (f : Found) (lines : List (List ℕ)) (g : Found) (i p : ℕ) (line : List ℕ) (a : SocketAddr)
    → length f.addresses ≡ PLACES → Takes f lines g → slice_get lines i ≡ Some line → entry_of line ≡ Ok (entries.Host p a)
    → address_at g.addresses p ≡ Some a
host_is_kept f [] g i p line a len takes at is = absurd cc
host_is_kept f (x ∷ lines) g zero p line a len (e, h, x_is, made, rest) at is =
    let same : x ≡ line = cc in
    let k = same_entry x e (entries.Host p a) x_is (subst (λ (y : List ℕ). entry_of y ≡ Ok (entries.Host p a)) (sym same) is) in
    let made_host : with_host f p a ≡ Ok h = subst (λ (y : Entry). with_entry f y ≡ Ok h) k made in
    lines_keep h lines g p a rest (put_there f p a h (let w = host_within line p a is in omega (arith, len, w)) made_host)
host_is_kept f (x ∷ lines) g (suc i) p line a len (e, h, x_is, made, rest) at is =
    host_is_kept h lines g i p line a (entry_length f e h made ∙ len) rest at is

pub cluster_is_kept : (f : Found) (lines : List (List ℕ)) (g : Found) (i n : ℕ) (line : List ℕ) → Takes f lines g
    → slice_get lines i ≡ Some line → entry_of line ≡ Ok (entries.Cluster n) → g.cluster ≡ Some n
cluster_is_kept f [] g i n line takes at is = absurd cc
cluster_is_kept f (x ∷ lines) g zero n line (e, h, x_is, made, rest) at is =
    let same : x ≡ line = cc in
    let k = same_entry x e (entries.Cluster n) x_is (subst (λ (y : List ℕ). entry_of y ≡ Ok (entries.Cluster n)) (sym same) is) in
    let made_number : with_cluster f n ≡ Ok h = subst (λ (y : Entry). with_entry f y ≡ Ok h) k made in
    clusters_keep h lines g n rest (ap (λ (y : Found). y.cluster) (counts f n h made_number).is)
cluster_is_kept f (x ∷ lines) g (suc i) n line (e, h, x_is, made, rest) at is = cluster_is_kept h lines g i n line rest at is

-- ---- no name twice

no_second_host : (f : Found) (lines : List (List ℕ)) (g : Found) (i p : ℕ) (line : List ℕ) (a b : SocketAddr) → Takes f lines g
    → address_at f.addresses p ≡ Some a → slice_get lines i ≡ Some line → entry_of line ≡ Ok (entries.Host p b) → ⊥
no_second_host f [] g i p line a b takes there at is = cc
no_second_host f (x ∷ lines) g zero p line a b (e, h, x_is, made, rest) there at is =
    let same : x ≡ line = cc in
    let k = same_entry x e (entries.Host p b) x_is (subst (λ (y : List ℕ). entry_of y ≡ Ok (entries.Host p b)) (sym same) is) in
    let made_host : with_host f p b ≡ Ok h = subst (λ (y : Entry). with_entry f y ≡ Ok h) k made in
    let free = (puts f p b h made_host).free in
    cc
no_second_host f (x ∷ lines) g (suc i) p line a b (e, h, x_is, made, rest) there at is =
    no_second_host h lines g i p line a b rest (entry_keeps f e h p a made there) at is

no_second_cluster : (f : Found) (lines : List (List ℕ)) (g : Found) (i n m : ℕ) (line : List ℕ) → Takes f lines g → f.cluster ≡ Some n
    → slice_get lines i ≡ Some line → entry_of line ≡ Ok (entries.Cluster m) → ⊥
no_second_cluster f [] g i n m line takes there at is = cc
no_second_cluster f (x ∷ lines) g zero n m line (e, h, x_is, made, rest) there at is =
    let same : x ≡ line = cc in
    let k = same_entry x e (entries.Cluster m) x_is (subst (λ (y : List ℕ). entry_of y ≡ Ok (entries.Cluster m)) (sym same) is) in
    let made_number : with_cluster f m ≡ Ok h = subst (λ (y : Entry). with_entry f y ≡ Ok h) k made in
    let free = (counts f m h made_number).free in
    cc
no_second_cluster f (x ∷ lines) g (suc i) n m line (e, h, x_is, made, rest) there at is =
    no_second_cluster h lines g i n m line rest (cluster_keeps f e h n made there) at is

pub host_once : (f : Found) (lines : List (List ℕ)) (g : Found) (i j p : ℕ) (line other : List ℕ) (a b : SocketAddr)
    → length f.addresses ≡ PLACES → Takes f lines g → slice_get lines i ≡ Some line → slice_get lines j ≡ Some other
    → entry_of line ≡ Ok (entries.Host p a) → entry_of other ≡ Ok (entries.Host p b) → i ≡ j
host_once f [] g i j p line other a b len takes at_i at_j is_i is_j = absurd cc
host_once f (x ∷ lines) g zero zero p line other a b len takes at_i at_j is_i is_j = refl
host_once f (x ∷ lines) g zero (suc j) p line other a b len (e, h, x_is, made, rest) at_i at_j is_i is_j =
    let there = host_is_kept f (x ∷ []) h zero p line a len (e, h, x_is, made, refl) at_i is_i in
    absurd (no_second_host h lines g j p other a b rest there at_j is_j)
host_once f (x ∷ lines) g (suc i) zero p line other a b len (e, h, x_is, made, rest) at_i at_j is_i is_j =
    let there = host_is_kept f (x ∷ []) h zero p other b len (e, h, x_is, made, refl) at_j is_j in
    absurd (no_second_host h lines g i p line b a rest there at_i is_i)
host_once f (x ∷ lines) g (suc i) (suc j) p line other a b len (e, h, x_is, made, rest) at_i at_j is_i is_j =
    ap suc (host_once h lines g i j p line other a b (entry_length f e h made ∙ len) rest at_i at_j is_i is_j)

pub cluster_once : (f : Found) (lines : List (List ℕ)) (g : Found) (i j n m : ℕ) (line other : List ℕ) → Takes f lines g
    → slice_get lines i ≡ Some line → slice_get lines j ≡ Some other
    → entry_of line ≡ Ok (entries.Cluster n) → entry_of other ≡ Ok (entries.Cluster m) → i ≡ j
cluster_once f [] g i j n m line other takes at_i at_j is_i is_j = absurd cc
cluster_once f (x ∷ lines) g zero zero n m line other takes at_i at_j is_i is_j = refl
cluster_once f (x ∷ lines) g zero (suc j) n m line other (e, h, x_is, made, rest) at_i at_j is_i is_j =
    let there = cluster_is_kept f (x ∷ []) h zero n line (e, h, x_is, made, refl) at_i is_i in
    absurd (no_second_cluster h lines g j n m other rest there at_j is_j)
cluster_once f (x ∷ lines) g (suc i) zero n m line other (e, h, x_is, made, rest) at_i at_j is_i is_j =
    let there = cluster_is_kept f (x ∷ []) h zero m other (e, h, x_is, made, refl) at_j is_j in
    absurd (no_second_cluster h lines g i m n line rest there at_i is_i)
cluster_once f (x ∷ lines) g (suc i) (suc j) n m line other (e, h, x_is, made, rest) at_i at_j is_i is_j =
    ap suc (cluster_once h lines g i j n m line other rest at_i at_j is_i is_j)

-- ---- no address twice

pub record AreApart (xs : Addresses) : Type 0 where
  pub one : (i j : ℕ) (a : SocketAddr) → address_at xs i ≡ Some a → address_at xs j ≡ Some a → i ≡ j

-- an address that is there now was there, or is the new one at its place
at_by : (xs : Addresses) (p i : ℕ) (a b : SocketAddr) → (i ≡ p) ⊎ (i ≢ p) → p < length xs → address_at (slice_set xs p (Some a)) i ≡ Some b
    → ((i ≡ p) × (a ≡ b)) ⊎ (address_at xs i ≡ Some b)
at_by xs p i a b (inl same) l at =
    let k : address_at (slice_set xs p (Some a)) p ≡ Some b = subst (λ (x : ℕ). address_at (slice_set xs p (Some a)) x ≡ Some b) same at in
    let j : Some a ≡ Some b = sym (written_here xs p (Some a) l) ∙ k in
    inl (same, cc)
at_by xs p i a b (inr other) l at = inr (sym (written_other xs p i (Some a) other) ∙ at)

apart_written : (xs : Addresses) (p : ℕ) (a : SocketAddr) → p < length xs → has_address xs a ≡ false → AreApart xs
    → AreApart (slice_set xs p (Some a))
apart_written xs p a l new h = record {
  one =
      λ i j b at_i at_j.
      elim (at_by xs p i a b (same_or_not i p) l at_i) [
        | inl x ↦
            elim (at_by xs p j a b (same_or_not j p) l at_j) [
              | inl y ↦ x.0 ∙ sym y.0
              | inr y ↦ absurd (twice b j x.1 y)
            ]
        | inr x ↦
            elim (at_by xs p j a b (same_or_not j p) l at_j) [
              | inl y ↦ absurd (twice b i y.1 x)
              | inr y ↦ h.one i j b x y
            ]
      ];
}
  where
    twice : (b : SocketAddr) (k : ℕ) → a ≡ b → address_at xs k ≡ Some b → ⊥
    twice b k same at =
        let f : same_address b a ≡ false = other_at xs a b k new at in
        let t : same_address b a ≡ true = subst (λ (x : SocketAddr). same_address b x ≡ true) (sym same) (same_address-refl b) in
        cc

entry_apart : (f : Found) (e : Entry) (g : Found) (line : List ℕ) → length f.addresses ≡ PLACES → entry_of line ≡ Ok e → with_entry f e ≡ Ok g
    → AreApart f.addresses → AreApart g.addresses
entry_apart f entries.Blank g line len is made h = let k : f ≡ g = cc in subst (λ (x : Found). AreApart x.addresses) k h
entry_apart f (entries.Cluster n) g line len is made h = subst (λ (x : Found). AreApart x.addresses) (sym (counts f n g made).is) h
entry_apart f (entries.Host p a) g line len is made h =
    let put = puts f p a g made in
    subst (λ (x : Found). AreApart x.addresses) (sym put.is)
    (apart_written f.addresses p a (let w = host_within line p a is in omega (arith, len, w)) put.new h)

lines_apart : (f : Found) (lines : List (List ℕ)) (g : Found) → length f.addresses ≡ PLACES → Takes f lines g → AreApart f.addresses
    → AreApart g.addresses
lines_apart f [] g len same h = subst (λ (x : Found). AreApart x.addresses) same h
lines_apart f (line ∷ lines) g len (e, i, is, made, rest) h =
    lines_apart i lines g (entry_length f e i made ∙ len) rest (entry_apart f e i line len is made h)

-- ---- of lists

nothing_apart : AreApart nothing.addresses
nothing_apart = record { one = λ i j a at_i at_j. absurd (let k = none_at PLACES i in cc) }

pub nothing_long : length nothing.addresses ≡ PLACES
nothing_long = refl

list_is_read : (text : List ℕ) (l : HostList) → list_of text ≡ Ok l → IsRead (lines_of text) l
unfolding list_of
list_is_read text l e = is_read (lines_of text) l e

-- no two places have one address
pub places_apart : (text : List ℕ) (l : HostList) → list_of text ≡ Ok l → AreApart l.addresses
places_apart text l e =
    let r = list_is_read text l e in
    subst AreApart (sym (lists_found r.found l r.completed).addresses)
    (lines_apart nothing (lines_of text) r.found nothing_long r.takes nothing_apart)

by_places : (o q : Option ℕ) (xs : Addresses) (a : SocketAddr) → AreApart xs → option_and_then (address_at xs) o ≡ Some a
    → option_and_then (address_at xs) q ≡ Some a → o ≡ q
by_places None q xs a h at_o at_q = absurd cc
by_places (Some i) None xs a h at_o at_q = absurd cc
by_places (Some i) (Some j) xs a h at_o at_q = ap Some (h.one i j a at_o at_q)

pub actors_apart : (text : List ℕ) (l : HostList) (x y : Actor) (a : SocketAddr) → list_of text ≡ Ok l → address_with l x ≡ Some a
    → address_with l y ≡ Some a → place_of x ≡ place_of y
actors_apart text l x y a e at_x at_y = by_places (place_of x) (place_of y) l.addresses a (places_apart text l e) at_x at_y

pub hosts_once : (text : List ℕ) (l : HostList) (i j p : ℕ) (line other : List ℕ) (a b : SocketAddr) → list_of text ≡ Ok l
    → slice_get (lines_of text) i ≡ Some line → slice_get (lines_of text) j ≡ Some other
    → entry_of line ≡ Ok (entries.Host p a) → entry_of other ≡ Ok (entries.Host p b) → i ≡ j
hosts_once text l i j p line other a b e at_i at_j is_i is_j =
    let r = list_is_read text l e in
    host_once nothing (lines_of text) r.found i j p line other a b nothing_long r.takes at_i at_j is_i is_j

pub clusters_once : (text : List ℕ) (l : HostList) (i j n m : ℕ) (line other : List ℕ) → list_of text ≡ Ok l
    → slice_get (lines_of text) i ≡ Some line → slice_get (lines_of text) j ≡ Some other
    → entry_of line ≡ Ok (entries.Cluster n) → entry_of other ≡ Ok (entries.Cluster m) → i ≡ j
clusters_once text l i j n m line other e at_i at_j is_i is_j =
    let r = list_is_read text l e in cluster_once nothing (lines_of text) r.found i j n m line other r.takes at_i at_j is_i is_j

pub hosts_kept : (text : List ℕ) (l : HostList) (i p : ℕ) (line : List ℕ) (a : SocketAddr) → list_of text ≡ Ok l
    → slice_get (lines_of text) i ≡ Some line → entry_of line ≡ Ok (entries.Host p a) → address_at l.addresses p ≡ Some a
hosts_kept text l i p line a e at is =
    let r = list_is_read text l e in
    subst (λ (xs : Addresses). address_at xs p ≡ Some a) (sym (lists_found r.found l r.completed).addresses)
    (host_is_kept nothing (lines_of text) r.found i p line a nothing_long r.takes at is)

pub clusters_kept : (text : List ℕ) (l : HostList) (i n : ℕ) (line : List ℕ) → list_of text ≡ Ok l
    → slice_get (lines_of text) i ≡ Some line → entry_of line ≡ Ok (entries.Cluster n) → l.cluster ≡ n
clusters_kept text l i n line e at is =
    let r = list_is_read text l e in
    let k : Some l.cluster ≡ Some n =
    sym (lists_found r.found l r.completed).cluster ∙ cluster_is_kept nothing (lines_of text) r.found i n line r.takes at is in
    cc

-- ---- and nothing else is in the list

from_entry : (f : Found) (e : Entry) (g : Found) (p : ℕ) (a : SocketAddr) (line : List ℕ) → length f.addresses ≡ PLACES → entry_of line ≡ Ok e
    → with_entry f e ≡ Ok g → address_at g.addresses p ≡ Some a
    → (address_at f.addresses p ≡ Some a) ⊎ (entry_of line ≡ Ok (entries.Host p a))
from_entry f entries.Blank g p a line len is made at =
    let k : f ≡ g = cc in inl (subst (λ (x : Found). address_at x.addresses p ≡ Some a) (sym k) at)
from_entry f (entries.Cluster n) g p a line len is made at =
    inl (subst (λ (x : Found). address_at x.addresses p ≡ Some a) (counts f n g made).is at)
from_entry f (entries.Host q b) g p a line len is made at =
    let put = puts f q b g made in
    let now = subst (λ (x : Found). address_at x.addresses p ≡ Some a) put.is at in
    elim (at_by f.addresses q p b a (same_or_not p q) (let w = host_within line q b is in omega (arith, len, w)) now) [
      | inl x ↦
          inr
          (subst (λ (y : ℕ). entry_of line ≡ Ok (entries.Host y a)) (sym x.0)
          (subst (λ (y : SocketAddr). entry_of line ≡ Ok (entries.Host q y)) x.1 is))
      | inr x ↦ inl x
    ]

from_lines : (f : Found) (lines : List (List ℕ)) (g : Found) (p : ℕ) (a : SocketAddr) → length f.addresses ≡ PLACES → Takes f lines g
    → address_at g.addresses p ≡ Some a → (address_at f.addresses p ≡ Some a) ⊎ IsOnLine lines p a
from_lines f [] g p a len same at = inl (subst (λ (x : Found). address_at x.addresses p ≡ Some a) (sym same) at)
from_lines f (line ∷ lines) g p a len (e, h, is, made, rest) at =
    elim (from_lines h lines g p a (entry_length f e h made ∙ len) rest at) [
      | inl x ↦
          elim (from_entry f e h p a line len is made x) [
            | inl y ↦ inl y
            | inr y ↦ inr (record { line = line; has = Has-first line line lines refl; is = y })
          ]
      | inr x ↦ inr (record { line = x.line; has = Has-rest x.line line lines x.has; is = x.is })
    ]

pub hosts_on_lines : (text : List ℕ) (l : HostList) (p : ℕ) (a : SocketAddr) → list_of text ≡ Ok l → address_at l.addresses p ≡ Some a
    → IsOnLine (lines_of text) p a
hosts_on_lines text l p a e at =
    let r = list_is_read text l e in
    let found =
    subst (λ (xs : Addresses). address_at xs p ≡ Some a) (lists_found r.found l r.completed).addresses at in
    elim (from_lines nothing (lines_of text) r.found p a nothing_long r.takes found) [
      | inl x ↦ absurd (let k = none_at PLACES p in cc)
      | inr x ↦ x
    ]
