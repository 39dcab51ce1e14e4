-- Two lines next to each other may change places.
use Rattle.std.proofs.Common.{◌≡◌, ◌≢◌, ℕ, ◌<◌, false, List, [], ◌∷◌, ◌++◌, length, Some, None, Ok, refl, sym, ap}
use Rattle.std.proofs.Common.{◌∙◌, subst, arith}
use Rattle.std.specs.Prelude.{slice_set}
use Rattle.std.specs.declared.net.socket_addr.SocketAddr.{SocketAddr}
use Rattle.host_list.specs.declared.entry.Entry.{Entry}
use Rattle.host_list.specs.declared.entry.Entry.TheVariants as entries
use Rattle.host_list.specs.declared.found.Found.{Found}
use Rattle.host_list.specs.declared.list.HostList.{HostList}
use Rattle.host_list.specs.declared.places.TheConstants.{PLACES}
use Rattle.host_list.specs.Places.{address_at, has_address}
use Rattle.host_list.specs.Reading.{entry_of, list_in, nothing, with_entry}
use Rattle.host_list.proofs.Apart.{Counts, Puts, Takes, counts, counts_back, entry_length, host_within, is_read, nothing_long, puts, puts_back}
use Rattle.host_list.proofs.Apart.{reads_back}
use Rattle.host_list.proofs.Tables.{none_before, none_written, same_address-back, written_here, written_other, written_twice}

-- the second line first, then the first, with the same end
record Swapped (f : Found) (d e : Entry) (h : Found) : Type 0 where
  between : Found
  first : with_entry f e ≡ Ok between
  second : with_entry between d ≡ Ok h

abbrev with_at : Found → ℕ → SocketAddr → Found
with_at f p a = record f { addresses = slice_set f.addresses p (Some a) }

abbrev with_number : Found → ℕ → Found
with_number f n = record f { cluster = Some n }

hosts_swap : (f g h : Found) (p q : ℕ) (a b : SocketAddr) → p < length f.addresses → Puts f p a g → Puts g q b h
    → Swapped f (entries.Host p a) (entries.Host q b) h
hosts_swap f g h p q a b l x y =
    let free : address_at (slice_set f.addresses p (Some a)) q ≡ None = subst (λ (k : Found). address_at k.addresses q ≡ None) x.is y.free in
    let other : q ≢ p =
    λ same. (let k = written_here f.addresses p (Some a) l in
    let j : address_at (slice_set f.addresses p (Some a)) p ≡ None = subst (λ (i : ℕ). address_at (slice_set f.addresses p (Some a)) i ≡ None) same free in
    cc) in
    let before =
    none_before f.addresses p a b l x.free (subst (λ (k : Found). has_address k.addresses b ≡ false) x.is y.new) in
    record {
      between = with_at f q b;
      first =
          puts_back f q b (with_at f q b)
          (record { free = sym (written_other f.addresses p q (Some a) other) ∙ free; new = before.0; is = refl });
      second =
          puts_back (with_at f q b) p a h
          (record {
            free = written_other f.addresses q p (Some b) (λ same. other (sym same)) ∙ x.free;
            new = none_written f.addresses q b a x.new (same_address-back b a before.1);
            is =
                y.is
                ∙ ap (λ (k : Found). with_at k q b) x.is
                ∙ ap (λ xs. record f { addresses = xs })
                (written_twice f.addresses p q (Some a) (Some b) (λ same. other (sym same)));
          });
    }

numbers_swap : (f g h : Found) (n m : ℕ) → Counts f n g → Counts g m h → ⊥
numbers_swap f g h n m x y =
    let k : Some n ≡ None = subst (λ (i : Found). i.cluster ≡ None) x.is y.free in cc

host_number_swap : (f g h : Found) (p n : ℕ) (a : SocketAddr) → Puts f p a g → Counts g n h
    → Swapped f (entries.Host p a) (entries.Cluster n) h
host_number_swap f g h p n a x y = record {
  between = with_number f n;
  first = counts_back f n (with_number f n) (record { free = subst (λ (k : Found). k.cluster ≡ None) x.is y.free; is = refl });
  second =
      puts_back (with_number f n) p a h
      (record { free = x.free; new = x.new; is = y.is ∙ ap (λ (k : Found). with_number k n) x.is });
}

number_host_swap : (f g h : Found) (p n : ℕ) (a : SocketAddr) → Counts f n g → Puts g p a h
    → Swapped f (entries.Cluster n) (entries.Host p a) h
number_host_swap f g h p n a x y = record {
  between = with_at f p a;
  first =
      puts_back f p a (with_at f p a)
      (record {
        free = subst (λ (k : Found). address_at k.addresses p ≡ None) x.is y.free;
        new = subst (λ (k : Found). has_address k.addresses a ≡ false) x.is y.new;
        is = refl;
      });
  second = counts_back (with_at f p a) n h (record { free = x.free; is = y.is ∙ ap (λ (k : Found). with_at k p a) x.is });
}

-- the second line of the two first
entries_swap : (f g h : Found) (d e : Entry) (line : List ℕ) → length f.addresses ≡ PLACES → entry_of line ≡ Ok d → with_entry f d ≡ Ok g
    → with_entry g e ≡ Ok h → Swapped f d e h
entries_swap f g h entries.Blank e line len is x y =
    let k : f ≡ g = cc in
    record { between = h; first = subst (λ (i : Found). with_entry i e ≡ Ok h) (sym k) y; second = refl }
entries_swap f g h (entries.Cluster n) entries.Blank line len is x y =
    let k : g ≡ h = cc in record { between = f; first = refl; second = x ∙ ap Ok k }
entries_swap f g h (entries.Host p a) entries.Blank line len is x y =
    let k : g ≡ h = cc in record { between = f; first = refl; second = x ∙ ap Ok k }
entries_swap f g h (entries.Cluster n) (entries.Cluster m) line len is x y =
    absurd (numbers_swap f g h n m (counts f n g x) (counts g m h y))
entries_swap f g h (entries.Cluster n) (entries.Host q b) line len is x y = number_host_swap f g h q n b (counts f n g x) (puts g q b h y)
entries_swap f g h (entries.Host p a) (entries.Cluster m) line len is x y = host_number_swap f g h p m a (puts f p a g x) (counts g m h y)
entries_swap f g h (entries.Host p a) (entries.Host q b) line len is x y =
    hosts_swap f g h p q a b (let w = host_within line p a is in omega (arith, len, w)) (puts f p a g x) (puts g q b h y)

takes_swapped : (f g : Found) (xs : List (List ℕ)) (a b : List ℕ) (ys : List (List ℕ)) → length f.addresses ≡ PLACES
    → Takes f (xs ++ a ∷ b ∷ ys) g → Takes f (xs ++ b ∷ a ∷ ys) g
takes_swapped f g [] a b ys len (d, h, is_d, made_d, (e, i, is_e, made_e, rest)) =
    let s = entries_swap f h i d e a len is_d made_d made_e in
    (e, s.between, is_e, s.first, (d, i, is_d, s.second, rest))
takes_swapped f g (x ∷ xs) a b ys len (e, h, is, made, rest) =
    (e, h, is, made, takes_swapped h g xs a b ys (entry_length f e h made ∙ len) rest)

pub order_is_free : (xs ys : List (List ℕ)) (a b : List ℕ) (l : HostList) → list_in (xs ++ a ∷ b ∷ ys) ≡ Ok l
    → list_in (xs ++ b ∷ a ∷ ys) ≡ Ok l
order_is_free xs ys a b l e =
    let r = is_read (xs ++ a ∷ b ∷ ys) l e in
    reads_back (xs ++ b ∷ a ∷ ys) l
    (record { found = r.found; takes = takes_swapped nothing r.found xs a b ys nothing_long r.takes; completed = r.completed })
