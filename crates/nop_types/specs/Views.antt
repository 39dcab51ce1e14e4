-- Views, their order and their rank.
use Rattle.std.specs.Prelude.{◌≡◌, ◌≤◌, ◌%◌, ◌⊎◌, ◌==◌, ◌&&◌, ◌||◌, ℕ, Bool, cond, max, nat_lt}
use Rattle.nop_types.specs.declared.view.View.{View}

-- each part of a is at most that of b
pub record AtMost (a b : View) : Type 0 where
  pub leader : a.leader ≤ b.leader
  pub session : a.session ≤ b.session

pub record Below (a b : View) : Type 0 where
  pub at_most : AtMost a b
  pub apart : a ≡ b → ⊥

abbrev pub Comparable : View → View → Type 0
Comparable a b = AtMost a b ⊎ AtMost b a

-- the view that all replicas begin in
abbrev pub first_view : View
first_view = record { leader = 0; session = 1 }

-- the greater of each part
abbrev pub join_of : View → View → View
join_of a b = record { leader = max a.leader b.leader; session = max a.session b.session }

-- by rank sessions count first, then leader numbers
abbrev pub outranks : View → View → Bool
outranks a b = nat_lt b.session a.session || ((a.session == b.session) && nat_lt b.leader a.leader)

-- the one of two views that ranks above the other
abbrev pub greater : View → View → View
greater a b = cond (outranks b a) b a

abbrev pub is_view : View → View → Bool
is_view a b = (a.leader == b.leader) && (a.session == b.session)

-- the replica that leads a view, of n replicas
abbrev pub leader_of : View → ℕ → ℕ
leader_of view n = view.leader % n
