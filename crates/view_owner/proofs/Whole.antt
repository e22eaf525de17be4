-- All instances tried in turn: what is found on the record is what the definition of the reverse lookup says of the view on paper.
use Rattle.laws.proofs.Prelude.{ℕ, ◌+◌, ◌*◌, ◌/◌, ◌%◌, ◌≤◌, ◌<◌, ◌≡◌, sym, ap, ◌∙◌, cond, arith, get_or, pos, w64, Fits, total, nth, run_div, run_mod, run_below, total_same}
use Rattle.std.proofs.Common.{Option, Some, None}
use Rattle.view.specs.declared.Pair.{Pair}
use Rattle.view.specs.declared.View.{View}
use Rattle.view.specs.Types.{paper, entries, width_at}
use Rattle.view.specs.Acceptance.{Valid}
use Rattle.view.specs.Places.{packed_before}
use Rattle.view.specs.Parts.{entry_start, offset_in, index_in, hits, hit_entry, owner_of}
use Rattle.view.proofs.Paper.{paper_entries, paper_file_entries, paper_width, paper_file_width, paper_file_displacement, paper_file_extent, paper_start, paper_instances}
use Rattle.view.proofs.Held.{start_small, some_entry, few_entries, record_entry, record_few, record_extent, record_origin}
use Rattle.view_owner.specs.Parts.{first_owner, entry_owner, owner_at, instance_owner, InstanceValid}
use Rattle.view_owner.proofs.Firsts.{first_runs, first_same, first_searched, Missed, missed_more, missed_stop, missed_end}

-- what instance g answers, on the record
unfoldable pub owner_from : View → ℕ → ℕ → Option Pair
owner_from v b g = instance_owner v.numbers.etype.entries v.widths v.displacements v.numbers.filetype.extent v.numbers.filetype.instances g (v.numbers.displacement + nth v.origins g) b

-- ---- what the loop over instances needs

module _ (v : View) (k : Valid (paper v)) (g : ℕ) (l : g < v.numbers.filetype.instances) where
  few : v.numbers.filetype.instances ≤ 64
  few = record_few v k

  begins : v.numbers.displacement + nth v.origins g < 1099512676352
  begins = omega (arith, record_origin v k g l, start_small v k)

  pub origin_held : g < 64
  origin_held = omega (arith, few)

  pub origin_scaled : Fits w64 (g * 8)
  origin_scaled = record { fits = omega (arith, few) }

  pub begin_fits : Fits w64 (v.numbers.displacement + get_or v.origins g 0)
  begin_fits = record { fits = omega (arith, begins) }

  pub instance_valid : InstanceValid v.numbers.etype.entries v.widths v.displacements v.numbers.filetype.extent v.numbers.filetype.instances g (v.numbers.displacement + get_or v.origins g 0)
  instance_valid = record {
    tile = record { extent = record_extent v k; instance = l; few = few };
    begins = omega (arith, begins);
    entries_few = few_entries v k;
    ends = record_entry v k;
  }

module _ (v : View) (k : Valid (paper v)) where
  -- ---- the answers of the entries

  -- entry i of the filetype, on paper
  file_owner : ℕ → ℕ → Option Pair
  file_owner b i = cond (hits (paper v) b i) (Some (record { offset = record { 0 = pos (offset_in (paper v) b i) }; index = index_in (paper v) b i })) None

  searched : (b : ℕ) → first_owner (file_owner b) (entries (paper v).filetype) ≡ owner_of (paper v) b
  unfolding file_owner owner_of hit_entry
  searched b = first_searched (hits (paper v) b) (λ i. record { offset = record { 0 = pos (offset_in (paper v) b i) }; index = index_in (paper v) b i }) (entries (paper v).filetype)

  -- entry i of instance g
  module _ (b g i : ℕ) (lg : g < v.numbers.filetype.instances) (li : i < v.numbers.etype.entries) where
    place : g * v.numbers.etype.entries + i < v.numbers.filetype.instances * v.numbers.etype.entries
    place = run_below v.numbers.filetype.instances v.numbers.etype.entries g i lg li

    group : (g * v.numbers.etype.entries + i) / v.numbers.etype.entries ≡ g
    group = run_div v.numbers.etype.entries g i li

    entry : (g * v.numbers.etype.entries + i) % v.numbers.etype.entries ≡ i
    entry = run_mod v.numbers.etype.entries g i li

    start_is : entry_start (paper v) (g * v.numbers.etype.entries + i) ≡ v.numbers.displacement + nth v.origins g + nth v.displacements i
    unfolding entry_start
    start_is = rw (paper_file_displacement v (g * v.numbers.etype.entries + i) place, group, entry, paper_start v) (omega arith)

    width_is : width_at (paper v).filetype (g * v.numbers.etype.entries + i) ≡ nth v.widths i
    width_is = rw (paper_file_width v (g * v.numbers.etype.entries + i) place, entry)

    packed_is : packed_before (paper v).etype i ≡ total (nth v.widths) i
    unfolding packed_before
    packed_is = total_same (width_at (paper v).etype) (nth v.widths) i (λ j q. paper_width v j (omega arith))

    entry_same : file_owner b (g * v.numbers.etype.entries + i) ≡ owner_at v.widths v.displacements v.numbers.filetype.extent v.numbers.filetype.instances g (v.numbers.displacement + nth v.origins g) b i
    unfolding file_owner hits offset_in index_in owner_at entry_owner
    entry_same = rw (start_is, width_is, paper_file_extent v, paper_instances v (some_entry v k), paper_entries v, group, entry, packed_is)

  pub record_owner_is : (b : ℕ) → first_owner (owner_from v b) v.numbers.filetype.instances ≡ owner_of (paper v) b
  unfolding owner_from instance_owner
  record_owner_is b =
      first_same _ _ v.numbers.filetype.instances (λ g l. first_same _ _ v.numbers.etype.entries (λ i q. sym (entry_same b g i l q)))
      ∙ sym (first_runs (file_owner b) v.numbers.filetype.instances v.numbers.etype.entries)
      ∙ ap (first_owner (file_owner b)) (sym (paper_file_entries v))
      ∙ searched b

  -- ---- what the loop returns

  module _ (b g : ℕ) (m : Missed (owner_from v b) g v.numbers.filetype.instances) where
    pub lookup_end : v.numbers.filetype.instances ≤ g → None ≡ owner_of (paper v) b
    lookup_end l = missed_end (owner_from v b) v.numbers.filetype.instances g m l ∙ record_owner_is b

    module _ (l : g < v.numbers.filetype.instances) (r : Option Pair) (h : r ≡ instance_owner v.numbers.etype.entries v.widths v.displacements v.numbers.filetype.extent v.numbers.filetype.instances g (v.numbers.displacement + get_or v.origins g 0) b) where
      answered : r ≡ owner_from v b g
      unfolding owner_from
      answered = h

      pub lookup_more : r ≡ None → Missed (owner_from v b) (g + 1) v.numbers.filetype.instances
      lookup_more q = missed_more (owner_from v b) v.numbers.filetype.instances g m l r answered q

      pub lookup_stop : (p : Pair) → r ≡ Some p → Some p ≡ owner_of (paper v) b
      lookup_stop p q = missed_stop (owner_from v b) v.numbers.filetype.instances g m l r answered p q ∙ record_owner_is b
