-- The order of marks: which is no worse than another, which marks a list covers, and which lists fall.
use Rattle.std.specs.Prelude.{◌<◌, Bool, true, false, ◌&&◌, ◌||◌, List, [], ◌∷◌, nat_le, nat_lt}
use Rattle.marks.specs.declared.mark.Mark.{Mark}

-- there no later, with no more boats
abbrev pub no_worse : Mark → Mark → Bool
no_worse m n = nat_le m.arrival n.arrival && nat_le m.boats n.boats

-- some mark of the list is no worse
abbrev pub covered : Mark → List Mark → Bool
covered m [] = false
covered m (n ∷ ns) = no_worse n m || covered m ns

-- one of the list
pub data Among (m : Mark) : List Mark → Type 0 where
  among_first : {ms : List Mark} → Among m (m ∷ ms)
  among_later : {n : Mark} {ms : List Mark} → Among m ms → Among m (n ∷ ms)

-- fewer boats first, and each later mark earlier
pub data Falling : List Mark → Type 0 where
  falling_none : Falling []
  falling_one : {m : Mark} → Falling (m ∷ [])
  falling_more : {m n : Mark} {ms : List Mark} → m.boats < n.boats → n.arrival < m.arrival →
      Falling (n ∷ ms) → Falling (m ∷ n ∷ ms)

-- the same as a test: the next mark has more boats and is earlier
abbrev pub falls : Mark → Mark → Bool
falls m n = nat_lt m.boats n.boats && nat_lt n.arrival m.arrival

-- each mark falls to the next, from m on
abbrev pub falls_on : Mark → List Mark → Bool
falls_on m [] = true
falls_on m (n ∷ ns) = falls m n && falls_on n ns

-- the test for a falling list
abbrev pub in_order : List Mark → Bool
in_order [] = true
in_order (m ∷ ms) = falls_on m ms
