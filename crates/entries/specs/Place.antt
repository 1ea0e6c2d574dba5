-- A place of entries: an array of which the first hold the entries, and the others say nothing.
use Rattle.std.proofs.Common.{◌≡◌, ◌-◌, ◌≤◌, List, ◌++◌, length, take, drop, replicate, sym, ap, ◌∙◌, subst, take-append-drop, length-take-le}
use Rattle.entries.specs.declared.lists.Entry.{Entry}
use Rattle.entries.specs.declared.filling.Entries.TheInside.{Inside}
use Rattle.entries.specs.Limits.{max_depots}
use Rattle.entries.specs.Lists.{blank}

-- as many as are counted stand in front, and what lies behind them says nothing
pub record Filled (place : Inside) : Type 0 where
  pub whole : length place.items ≡ max_depots
  pub within : place.count ≤ max_depots
  pub behind : drop place.count place.items ≡ replicate (max_depots - place.count) blank

-- the place of a list that has room in one
abbrev pub filled : List Entry → Inside
filled list = record { items = list ++ replicate (max_depots - length list) blank; count = length list }

-- a place that is filled is that of its list: a proof, which stands here since the place's model cites it
pub filled_back : (place : Inside) → Filled place → filled (take place.count place.items) ≡ place
filled_back place is =
    let count : length (take place.count place.items) ≡ place.count =
    length-take-le place.count place.items (subst (λ n. place.count ≤ n) (sym is.whole) is.within) in
    let items : (filled (take place.count place.items)).items ≡ place.items =
    ap (λ n. take place.count place.items ++ replicate (max_depots - n) blank) count
    ∙ (ap (λ rest. take place.count place.items ++ rest) (sym is.behind) ∙ take-append-drop place.count place.items) in
    λ i. record { items = items i; count = count i }
