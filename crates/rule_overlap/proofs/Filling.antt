-- Keys put into a list, each at its place.
use Rattle.laws.proofs.Prelude.{ℕ, ◌+◌, ◌*◌, ◌%◌, ◌≤◌, ◌<◌, ◌≡◌, refl, sym, ap, ◌∙◌, Bool, true, List, arith, length, set, get_or, take, get_or-take, length-take-le, mod-lt, zero-mul, nth, all, least_false, front, front_at, length_store, store_none, store_more, all_reaches, least_false_le, run_div, run_mod, run_below}
use Rattle.view.specs.declared.View.{View}
use Rattle.view.specs.Types.{paper, width_at, displacement_at}
use Rattle.view.specs.Parts.{entry_clear, clear}
use Rattle.view.proofs.Paper.{paper_file_entries, paper_file_width, paper_file_displacement, paper_file_extent}
use Rattle.rule_overlap.specs.Parts.{key_of, group_key, key_clear, KeysValid, EntriesReady, RecordReady}
use Rattle.rule_overlap.proofs.Keys.{keys_rule, keys_first}

-- ---- the keys of a list of entries

-- keys at the front of a list, as a list of their own
module _ (value : ℕ → ℕ) (n : ℕ) (l : List ℕ) (h : n ≤ length l) where
  pub part_long : n ≡ length (take n (front value n l))
  part_long = sym (length-take-le n (front value n l) (omega (arith, length_store (λ i. i) value n l)))

  pub part_at : (i : ℕ) → i < n → nth (take n (front value n l)) i ≡ value i
  part_at i b = get_or-take n (front value n l) i 0 b ∙ front_at value n l 0 i b (omega arith)

  -- keys of entries within the limits
  pub part_valid : (w d : ℕ → ℕ) (f : ℕ) → 0 < n → n ≤ 256 → f ≤ 1048576 → ((i : ℕ) → i < n → value i ≡ key_of f (d i) (w i)) → ((i : ℕ) → i < n → (0 < w i) × (w i < 16)) → KeysValid (take n (front value n l)) f
  part_valid w d f some few fl is ws = record {
    some = omega (arith, part_long);
    few = omega (arith, part_long);
    extent = fl;
    widths = λ i b. let g : i < n = omega (arith, part_long) in rw (part_at i g, is i g, run_mod 16 (d i % f) (w i) (ws i g).1) (ws i g).0;
  }

module _ (ws ds : List ℕ) (f : ℕ) (k : EntriesReady ws ds f) (l : List ℕ) (room : length l ≡ 256) where
  abbrev listed : ℕ → ℕ
  listed i = key_of f (nth ds i) (nth ws i)

  module _ (keys : List ℕ) (i : ℕ) (e : keys ≡ front listed i l) (all_put : length ws ≤ i) (put : i ≤ length ws) where
    list_front : keys ≡ front listed (length ws) l
    list_front = let q : i ≡ length ws = omega arith in e ∙ ap (λ (n : ℕ). front listed n l) q

    list_room : length ws ≤ length l
    list_room = omega (arith, k.few)

    pub list_long : length ws ≡ length (take (length ws) keys)
    list_long = rw list_front (part_long listed (length ws) l list_room)

    pub list_valid : KeysValid (take (length ws) keys) f
    list_valid = rw list_front (part_valid listed (length ws) l list_room (nth ws) (nth ds) f k.some k.few k.extent (λ n b. refl) k.widths)

    list_at : (n : ℕ) → n < length ws → nth (take (length ws) keys) n ≡ key_of f (nth ds n) (nth ws n)
    list_at n b = rw list_front (part_at listed (length ws) l list_room n b)

    -- what is found of the keys is found of the entries
    pub list_none : (t : Bool) → t ≡ all (key_clear f (take (length ws) keys)) (length (take (length ws) keys)) → t ≡ true → length ws ≡ least_false (entry_clear (nth ws) (nth ds) f) (length ws)
    list_none t h q =
        let g : all (key_clear f (take (length ws) keys)) (length ws) ≡ true = rw (sym list_long) at (sym h ∙ q) in
        let m = all_reaches (entry_clear (nth ws) (nth ds) f) (length ws) (sym (keys_rule (take (length ws) keys) (nth ws) (nth ds) f (length ws) list_at (λ n b. (k.widths n b).1)) ∙ g) in
        omega (arith, m, least_false_le (entry_clear (nth ws) (nth ds) f) (length ws))

    pub list_first : (r : ℕ) → r ≡ least_false (key_clear f (take (length ws) keys)) (length (take (length ws) keys)) → r ≡ least_false (entry_clear (nth ws) (nth ds) f) (length ws)
    list_first r h = (rw (sym list_long) at h) ∙ keys_first (take (length ws) keys) (nth ws) (nth ds) f (length ws) list_at (λ n b. (k.widths n b).1)

-- ---- the keys of a view's record

module _ (v : View) where
  abbrev n : ℕ
  n = v.numbers.etype.entries

  abbrev keyed : ℕ → List ℕ → List ℕ
  keyed m before = front (group_key v) m before

  -- one key more
  pub group_more : (g e x : ℕ) (before keys : List ℕ) → e < n → keys ≡ keyed (g * n + e) before → x ≡ key_of v.numbers.filetype.extent (get_or v.origins g 0 + get_or v.displacements e 0) (get_or v.widths e 0) → set keys (g * n + e) x ≡ keyed (g * n + (e + 1)) before
  unfolding group_key
  group_more g e x before keys l h q =
      let m : g * n + (e + 1) ≡ g * n + e + 1 = omega arith in
      rw m (store_more (λ i. i) (group_key v) (g * n + e) (g * n + e) x before keys h refl (q ∙ rw (run_div n g e l, run_mod n g e l)))

  pub groups_none : (l : List ℕ) → l ≡ keyed (0 * n) l
  groups_none l = rw (zero-mul n) (store_none (λ i. i) (group_key v) l)

-- all of them
module _ (v : View) (k : RecordReady v) (l : List ℕ) (room : length l ≡ 256) where
  abbrev total : ℕ
  total = v.numbers.filetype.instances * v.numbers.etype.entries

  module _ (keys : List ℕ) (e : keys ≡ front (group_key v) total l) where
    total_room : total ≤ length l
    total_room = omega (arith, k.total)

    in_etype : (i : ℕ) → i % v.numbers.etype.entries < v.numbers.etype.entries
    in_etype i = mod-lt i {m = v.numbers.etype.entries} k.some

    view_is : (i : ℕ) → i < total → group_key v i ≡ key_of v.numbers.filetype.extent (displacement_at (paper v).filetype i) (width_at (paper v).filetype i)
    unfolding group_key
    view_is i b = rw (paper_file_displacement v i b, paper_file_width v i b)

    view_widths : (i : ℕ) → i < total → (0 < width_at (paper v).filetype i) × (width_at (paper v).filetype i < 16)
    view_widths i b = rw (paper_file_width v i b) (k.widths (i % v.numbers.etype.entries) (in_etype i))

    some_total : 0 < total
    some_total = omega (arith, run_below v.numbers.filetype.instances v.numbers.etype.entries 0 0 k.some_instances k.some)

    pub view_long : total ≡ length (take total keys)
    view_long = rw e (part_long (group_key v) total l total_room)

    pub view_valid : KeysValid (take total keys) v.numbers.filetype.extent
    view_valid = rw e (part_valid (group_key v) total l total_room (width_at (paper v).filetype) (displacement_at (paper v).filetype) v.numbers.filetype.extent some_total k.total k.extent view_is view_widths)

    pub view_answer : (t : Bool) → t ≡ all (key_clear v.numbers.filetype.extent (take total keys)) (length (take total keys)) → t ≡ clear (paper v)
    unfolding clear
    view_answer t h =
        (rw (sym view_long) at h)
        ∙ keys_rule (take total keys) (width_at (paper v).filetype) (displacement_at (paper v).filetype) v.numbers.filetype.extent total (λ i b. rw e (part_at (group_key v) total l total_room i b ∙ view_is i b)) (λ i b. (view_widths i b).1)
        ∙ rw (paper_file_entries v, paper_file_extent v)
