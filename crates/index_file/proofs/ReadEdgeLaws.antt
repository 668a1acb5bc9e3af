-- The edges of a file as they are read.
use Rattle.std.proofs.Common.{◌≡◌, ℕ, zero, suc, ◌<◌, List, [], ◌∷◌, ◌++◌, length, get_or, Option, Some, None, IsTrue, true, true≢false, refl, sym, ◌∙◌, ap, subst, arith}
use Rattle.std.proofs.lemmas.Bool.{and_parts}
use Rattle.std.specs.Prelude.{◌&&◌}
use Rattle.index_file.specs.Readings.{Reading, last_of, is_behind, is_live_in, can_take_edge}
use Rattle.index_file.specs.ReadEdges.{RiseBehind, JoinLive, AreReadEdges}

-- the last of the edges, or the one before them
abbrev last_behind : Option (ℕ × ℕ) → List (ℕ × ℕ) → Option (ℕ × ℕ)
last_behind last [] = last
last_behind last (e ∷ es) = last_behind (Some e) es

last_same : (last : Option (ℕ × ℕ)) (e : ℕ × ℕ) (es : List (ℕ × ℕ)) → last_behind last (e ∷ es) ≡ last_of (e ∷ es)
last_same last e [] = refl
last_same last e (f ∷ es) = last_same (Some e) f es

last_is : (es : List (ℕ × ℕ)) → last_behind None es ≡ last_of es
last_is [] = refl
last_is (e ∷ es) = last_same None e es

rise_more : (last : Option (ℕ × ℕ)) (es : List (ℕ × ℕ)) (u v : ℕ) → RiseBehind last es → is_behind (last_behind last es) u v ≡ true → RiseBehind last (es ++ (u, v) ∷ [])
rise_more last [] u v rise h = (h, tt)
rise_more last (e ∷ es) u v rise h = (rise.0, rise_more (Some e) es u v rise.1 h)

join_more : (allocated : List (Option (List ℕ))) (es : List (ℕ × ℕ)) (u v : ℕ) → JoinLive allocated es → is_live_in allocated u ≡ true → is_live_in allocated v ≡ true
    → JoinLive allocated (es ++ (u, v) ∷ [])
join_more allocated [] u v join from onto = (from, onto, tt)
join_more allocated (e ∷ es) u v join from onto = (join.0, join.1, join_more allocated es u v join.2 from onto)

-- one more edge
pub edge_pushed : (r : Reading) (u v : ℕ) → AreReadEdges r.allocated r.pairs → can_take_edge r u v ≡ true → AreReadEdges r.allocated (r.pairs ++ (u, v) ∷ [])
edge_pushed r u v a can =
    let from = and_parts (is_live_in r.allocated u) (is_live_in r.allocated v && is_behind (last_of r.pairs) u v) can in
    let onto = and_parts (is_live_in r.allocated v) (is_behind (last_of r.pairs) u v) from.1 in
    record {
      rise = rise_more None r.pairs u v a.rise (ap (λ l. is_behind l u v) (last_is r.pairs) ∙ onto.1);
      live = join_more r.allocated r.pairs u v a.live from.0 onto.0;
    }

-- nodes that are live stay so
live_stays : (allocated : List (Option (List ℕ))) (o : Option (List ℕ)) (n : ℕ) → is_live_in allocated n ≡ true → is_live_in (allocated ++ o ∷ []) n ≡ true
live_stays [] o n h = absurd (true≢false (sym h))
live_stays (x ∷ allocated) o zero h = h
live_stays (x ∷ allocated) o (suc n) h = live_stays allocated o n h

join_stays : (allocated : List (Option (List ℕ))) (o : Option (List ℕ)) (es : List (ℕ × ℕ)) → JoinLive allocated es → JoinLive (allocated ++ o ∷ []) es
join_stays allocated o [] join = tt
join_stays allocated o (e ∷ es) join = (live_stays allocated o e.0 join.0, live_stays allocated o e.1 join.1, join_stays allocated o es join.2)

-- one more number
pub node_pushed : (allocated new : List (Option (List ℕ))) (o : Option (List ℕ)) (es : List (ℕ × ℕ)) → AreReadEdges allocated es → new ≡ allocated ++ o ∷ [] → AreReadEdges new es
node_pushed allocated new o es a e = subst (λ xs. AreReadEdges xs es) (sym e) (record { rise = a.rise; live = join_stays allocated o es a.live })

-- the ends of an edge by its place
pub ends_live : (allocated : List (Option (List ℕ))) (es : List (ℕ × ℕ)) (j : ℕ) → JoinLive allocated es → j < length es
    → IsTrue (is_live_in allocated (get_or es j (0, 0)).0) × IsTrue (is_live_in allocated (get_or es j (0, 0)).1)
ends_live allocated [] j join h = absurd (omega (arith, h))
ends_live allocated (e ∷ es) zero join h = (join.0, join.1)
ends_live allocated (e ∷ es) (suc j) join h = ends_live allocated es j join.2 (omega (arith, h))
