-- What is true of the run spelling: a list written is read back, nothing shorter spells it, and where
-- its runs are cut makes no difference.
use Rattle.std.specs.Prelude.{◌≡◌, ℕ, zero, suc, ◌+◌, ◌*◌, ◌<◌, ◌≤◌, true, cond, ◌&&◌, ltb, List, [], ◌∷◌, ◌++◌, length, replicate, is_some, Some, None, Option, ◌==◌, ◌≢◌, nat_le, nat_lt, slice_index, refl}
use Rattle.std.proofs.Common.{arith, inl, inr, sym, ◌∙◌, ap, subst}
use Rattle.std.proofs.lemmas.List.{append_assoc, length-append, length-replicate, replicate-append-replicate}
use Rattle.std.proofs.lemmas.Bool.{and_from, and_parts, cases_Bool, cond_both, eqb-true, le-leb, leb-true, lt-ltb, ltb-true}
use Rattle.rows.specs.Rows.{listed}
use Rattle.rows.proofs.Tables.{listed_both}
use Rattle.lists.specs.Lists.{all_ports}
use Rattle.run_book.specs.Spelling.{Cut, behind, expanded, fitting, here, in_front, later, run_list, runs}
use Rattle.run_book.specs.RunSpelling.{in_front_other, in_front_same, runs_cons, runs_first}

never : {l : List ℕ} → None ≢ Some l
never e = let z : ◌≡◌ {A = ℕ} 0 1 = cc in omega arith

-- what a pair and the pairs behind it spell
pub record Pair (port count : ℕ) (pairs list : List ℕ) : Type 0 where
  pub rest : List ℕ
  pub fits : port < 8
  pub some : 0 < count
  pub spell : expanded pairs ≡ Some rest
  pub whole : list ≡ replicate count port ++ rest

behind_some : (front list : List ℕ) (o : Option (List ℕ)) → behind front o ≡ Some list
    → (rest : List ℕ) × (o ≡ Some rest) × (list ≡ front ++ rest)
behind_some front list (Some rest) e = (rest, refl, cc)
behind_some front list None e = absurd (never e)

pub pair_view : (port count : ℕ) (pairs list : List ℕ) → expanded (port ∷ count ∷ pairs) ≡ Some list → Pair port count pairs list
unfolding expanded
pair_view port count pairs list e =
    elim (cases_Bool (nat_lt port 8 && nat_lt 0 count)) [
      | inl run ↦
          let b = and_parts (nat_lt port 8) (nat_lt 0 count) run in
          let e' : behind (replicate count port) (expanded pairs) ≡ Some list = rw run at e in
          let r = behind_some (replicate count port) list (expanded pairs) e' in
          record { rest = r.0; fits = ltb-true port 8 b.0; some = ltb-true 0 count b.1; spell = r.1; whole = r.2 }
      | inr none ↦ absurd (never (rw none at e))
    ]

pub pair_made : (port count : ℕ) (pairs rest : List ℕ) → port < 8 → 0 < count → expanded pairs ≡ Some rest
    → expanded (port ∷ count ∷ pairs) ≡ Some (replicate count port ++ rest)
unfolding expanded
pair_made port count pairs rest fits some e =
    let run = and_from (nat_lt port 8) (nat_lt 0 count) (lt-ltb port 8 fits) (lt-ltb 0 count some) in rw (run, e)

odd_none : (port : ℕ) (list : List ℕ) → expanded (port ∷ []) ≢ Some list
unfolding expanded
odd_none port list e = never e

none_nil : (list : List ℕ) → expanded [] ≡ Some list → [] ≡ list
unfolding expanded
none_nil list e = cc

expanded_nil : expanded [] ≡ Some []
unfolding expanded
expanded_nil = refl

runs_nil : runs [] ≡ []
unfolding runs
runs_nil = refl

in_front_nil : (port : ℕ) → in_front port [] ≡ port ∷ 1 ∷ []
unfolding in_front
in_front_nil port = refl

-- a port in front of what pairs spell
expanded_in_front : (port : ℕ) (pairs list : List ℕ) → port < 8 → expanded pairs ≡ Some list
    → expanded (in_front port pairs) ≡ Some (port ∷ list)
expanded_in_front port [] list fits e =
    ap expanded (in_front_nil port)
    ∙ pair_made port 1 [] [] fits (omega arith) expanded_nil
    ∙ ap (λ l. Some (port ∷ l)) (none_nil list e)
expanded_in_front port (first ∷ []) list fits e = absurd (odd_none first list e)
expanded_in_front port (first ∷ count ∷ pairs) list fits e =
    let v = pair_view first count pairs list e in
    elim (cases_Bool (port == first)) [
      | inl same ↦
          let q : port ≡ first = eqb-true port first same in
          subst (λ p. expanded (in_front p (first ∷ count ∷ pairs)) ≡ Some (p ∷ list)) (sym q)
          (ap expanded (in_front_same first count pairs)
          ∙ pair_made first (suc count) pairs v.rest v.fits (omega arith) v.spell
          ∙ ap (λ l. Some (first ∷ l)) (sym v.whole))
      | inr other ↦
          ap expanded (in_front_other port first count pairs other) ∙ pair_made port 1 (first ∷ count ∷ pairs) list fits (omega arith) e
    ]

expanded_runs : (ports : List ℕ) → all_ports ports ≡ true → expanded (runs ports) ≡ Some ports
unfolding all_ports
expanded_runs [] fit = ap expanded runs_nil ∙ expanded_nil
expanded_runs (port ∷ ports) fit =
    let b = and_parts (nat_lt port 8) (all_ports ports) fit in
    ap expanded (runs_cons port ports) ∙ expanded_in_front port (runs ports) ports (ltb-true port 8 b.0) (expanded_runs ports b.1)

-- a list written is read back
pub runs_read : (ports : List ℕ) → length ports ≤ 127 → all_ports ports ≡ true → run_list (runs ports) ≡ Some ports
unfolding run_list
runs_read ports short fit = let room = le-leb (length ports) 127 short in rw (expanded_runs ports fit, room)

-- how many bytes a list takes
length_in_front : (port : ℕ) (pairs : List ℕ) → length (in_front port pairs) ≤ 2 + length pairs
unfolding in_front
length_in_front port [] = omega arith
length_in_front port (first ∷ []) = omega arith
length_in_front port (first ∷ count ∷ pairs) =
    cond_both (port == first) (port ∷ suc count ∷ pairs) (port ∷ 1 ∷ first ∷ count ∷ pairs)
    (λ l. length l ≤ 2 + length (first ∷ count ∷ pairs)) (λ _. omega arith) (λ _. omega arith)

pub length_runs : (ports : List ℕ) → length (runs ports) ≤ 2 * length ports
length_runs [] = omega (arith, ap length runs_nil)
length_runs (port ∷ ports) = omega (arith, ap length (runs_cons port ports), length_in_front port (runs ports), length_runs ports)

-- a second equal port makes no pair more
length_again : (port : ℕ) (ports : List ℕ) → length (runs (port ∷ port ∷ ports)) ≡ length (runs (port ∷ ports))
length_again port ports =
    let f = runs_first port ports in
    ap length (runs_cons port (port ∷ ports) ∙ ap (in_front port) f ∙ in_front_same port _ _) ∙ sym (ap length f)

length_run : (port count : ℕ) (ports : List ℕ) → length (runs (replicate count port ++ ports)) ≤ 2 + length (runs ports)
length_run port zero ports = omega arith
length_run port (suc zero) ports = omega (arith, ap length (runs_cons port ports), length_in_front port (runs ports))
length_run port (suc (suc count)) ports =
    omega (arith, length_again port (replicate count port ++ ports), length_run port (suc count) ports)

expanded_shortest : (bytes list : List ℕ) → expanded bytes ≡ Some list → length (runs list) ≤ length bytes
expanded_shortest [] list e = omega (arith, ap (λ l. length (runs l)) (sym (none_nil list e)), ap length runs_nil)
expanded_shortest (port ∷ []) list e = absurd (odd_none port list e)
expanded_shortest (port ∷ count ∷ pairs) list e =
    let v = pair_view port count pairs list e in
    omega (arith, ap (λ l. length (runs l)) v.whole, length_run port count v.rest, expanded_shortest pairs v.rest v.spell)

fitting_some : (o : Option (List ℕ)) (list : List ℕ) → fitting o ≡ Some list → (o ≡ Some list) × (length list ≤ 127)
fitting_some (Some l) list e =
    elim (cases_Bool (nat_le (length l) 127)) [
      | inl room ↦ let s : Some l ≡ Some list = rw room at e in (s, let q : l ≡ list = cc in subst (λ x. length x ≤ 127) q (leb-true (length l) 127 room))
      | inr full ↦ absurd (never (rw full at e))
    ]
fitting_some None list e = absurd (never e)

-- nothing shorter spells the list
pub runs_shortest : (bytes list : List ℕ) → run_list bytes ≡ Some list → length (runs list) ≤ length bytes
unfolding run_list
runs_shortest bytes list e = expanded_shortest bytes list (fitting_some (expanded bytes) list e).0

-- cutting a run in two makes no difference
expanded_here : (port m n : ℕ) (pairs : List ℕ) → 0 < m → 0 < n
    → expanded (port ∷ (m + n) ∷ pairs) ≡ expanded (port ∷ m ∷ port ∷ n ∷ pairs)
unfolding expanded
expanded_here port m n pairs p q =
    let a : ltb 0 (m + n) ≡ true = lt-ltb 0 (m + n) (omega arith) in
    elim (cases_Bool (nat_lt port 8)) [
      | inl fits ↦ rw (a, lt-ltb 0 m p, lt-ltb 0 n q, fits) (split (expanded pairs))
      | inr big ↦ rw (a, lt-ltb 0 m p, lt-ltb 0 n q, big)
    ]
  where
    split : (o : Option (List ℕ)) → behind (replicate (m + n) port) o ≡ behind (replicate m port) (behind (replicate n port) o)
    split (Some list) = ap Some (ap (λ l. l ++ list) (sym (replicate-append-replicate m n port)) ∙ append_assoc (replicate m port) (replicate n port) list)
    split None = refl

expanded_cut : {whole pieces : List ℕ} → Cut whole pieces → expanded whole ≡ expanded pieces
unfolding expanded
expanded_cut (here port m n pairs p q) = expanded_here port m n pairs p q
expanded_cut (later port count cut) =
    let e = expanded_cut cut in ap (λ o. cond (nat_lt port 8 && nat_lt 0 count) (behind (replicate count port) o) None) e

pub cut_same : {whole pieces : List ℕ} → Cut whole pieces → run_list whole ≡ run_list pieces
unfolding run_list
cut_same cut = ap fitting (expanded_cut cut)

-- how many bytes a spelling has at the most, and that what it spells is a list of ports
expanded_widest : (bytes list : List ℕ) → expanded bytes ≡ Some list → length bytes ≤ 2 * length list
expanded_widest [] list e = omega arith
expanded_widest (port ∷ []) list e = absurd (odd_none port list e)
expanded_widest (port ∷ count ∷ pairs) list e =
    let v = pair_view port count pairs list e in
    omega (
      arith,
      ap length v.whole,
      length-append (replicate count port) v.rest,
      length-replicate count port,
      v.some,
      expanded_widest pairs v.rest v.spell,
    )

pub run_widest : (bytes list : List ℕ) → run_list bytes ≡ Some list → length bytes ≤ 254
unfolding run_list
run_widest bytes list e =
    let f = fitting_some (expanded bytes) list e in omega (arith, f.1, expanded_widest bytes list f.0)

-- the widest spelling: 127 ports 1, as pairs with count 1
pub run_reached : (bytes : List ℕ) × (is_some (run_list bytes) ≡ true) × (length bytes ≡ 254)
unfolding run_list expanded
run_reached = (replicate 254 1, refl, refl)

replicate_fit : (port count : ℕ) (ports : List ℕ) → port < 8 → ((k : ℕ) → slice_index ports k < 8)
    → (k : ℕ) → slice_index (replicate count port ++ ports) k < 8
replicate_fit port zero ports fits fit k = fit k
replicate_fit port (suc count) ports fits fit zero = fits
replicate_fit port (suc count) ports fits fit (suc k) = replicate_fit port count ports fits fit k

expanded_fit : (bytes list : List ℕ) → expanded bytes ≡ Some list → (k : ℕ) → slice_index list k < 8
expanded_fit [] list e k = subst (λ l. slice_index l k < 8) (none_nil list e) (omega arith)
expanded_fit (port ∷ []) list e k = absurd (odd_none port list e)
expanded_fit (port ∷ count ∷ pairs) list e k =
    let v = pair_view port count pairs list e in
    subst (λ l. slice_index l k < 8) (sym v.whole) (replicate_fit port count v.rest v.fits (expanded_fit pairs v.rest v.spell) k)

pub run_fit : (bytes : List ℕ) (k : ℕ) → slice_index (listed (run_list bytes)) k < 8
unfolding run_list
run_fit bytes k =
    listed_both (run_list bytes) (λ l. slice_index l k < 8) (omega arith)
    (λ list e. expanded_fit bytes list (fitting_some (expanded bytes) list e).0 k)

pub run_short : (bytes : List ℕ) → length (listed (run_list bytes)) ≤ 127
unfolding run_list
run_short bytes =
    listed_both (run_list bytes) (λ l. length l ≤ 127) (omega arith) (λ list e. (fitting_some (expanded bytes) list e).1)
