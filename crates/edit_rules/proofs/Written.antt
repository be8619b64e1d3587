-- A component that was written is judged to be what was written (the round trip); and the bytes of a region with a slot written anew.
use Prim.Native.Nat.{ℕ, zero, suc, ◌+◌, ◌*◌, ◌-◌, ◌%◌, ◌^◌, ◌≤◌, ◌<◌}
use native.Mathlib.Omega.{arith}
use mathlib.Core.Path.{◌≡◌, refl, sym, ap, ◌∙◌}
use mathlib.Core.List.{List, [], ◌∷◌, ◌++◌, append_assoc}
use mathlib.Core.Bool.{Bool, true, false, cond}
use Rattle.std.specs.Prelude.{Some}
use lib.ListN.{length, get_or, take, drop, replicate, length-drop, length-append, length-replicate, get_or-replicate, get_or-append}
use lib.Seq.{get_or-take, get_or-drop, take_at, drop_at, get_or-append-add, length-take-le, drop-drop}
use lib.Dec.{leb, eqb}
use borrow.Author.Tests.{leb-true, le-leb, lt-ltb, ne_eqb, eq-eqb}
use Rattle.bytes_read.proofs.Tested.{both_true}
use Rattle.bytes_read.specs.Number.{be, be_bytes}
use Rattle.bytes_read.specs.Bytes.{eq_bytes, splice}
use Rattle.bytes_read.specs.Tests.{all}
use Rattle.bytes_read.proofs.Numbers.{length-be_bytes, be-be_bytes}
use Rattle.bytes_read.proofs.Passing.{passes}
use Rattle.bytes_read.specs.Printable.{is_printable}
use Rattle.component.specs.Names.{is_zero, name_tests, name_fits, before_zero, field_tests, field_fits}
use Rattle.component.specs.Sums.{total, checksum_zeroed, span_sum, checksum_of, checksum_matches}
use Rattle.component.specs.Component.{magic, starts_with_magic, len_of, kind_of, offset_of, name_field, component_of, judge}
use Rattle.component.proofs.Judging.{unformed}
use Rattle.component.proofs.Summing.{total-append, total_zeroed}
use Rattle.edit_rules.specs.Edit.{field_length, offset_for, header_bytes, field_bytes, span_stating, sum_for, span_bytes, Run, slot_filled, new_component}
use Rattle.edit_rules.specs.Edit.{BytesAt}

-- The field holds a byte more than the name, has 16 to 256 bytes, and its size is a multiple of 16.

pub field_fits_lem : (n : ℕ) → n < field_length n
unfolding field_length
field_fits_lem n = omega arith

pub field_most : (n : ℕ) → n ≤ 255 → field_length n ≤ 256
unfolding field_length
field_most n h = omega arith

pub field_least : (n : ℕ) → 16 ≤ field_length n
unfolding field_length
field_least n = omega arith

pub field_whole : (n : ℕ) → field_length n % 16 ≡ 0
unfolding field_length
field_whole n = omega arith

-- No multiple of 16 that holds the name and one zero is shorter.
pub field_shortest : (n k : ℕ) → n < k * 16 → field_length n ≤ k * 16
unfolding field_length
field_shortest n k h = omega arith

-- A fit name.
pub record Fit (name : List ℕ) : Type 0 where
  pub some_byte : 1 ≤ length name
  pub short : length name ≤ 255
  pub printable : all is_printable name ≡ true

pub name_fit : (name : List ℕ) → name_fits name ≡ true → Fit name
unfolding name_fits name_tests
name_fit name e = record {
  some_byte = leb-true 1 (length name) (passes 0 (name_tests name) e);
  short = leb-true (length name) 255 (passes 1 (name_tests name) e);
  printable = passes 2 (name_tests name) e;
}

printable_cons : (b : ℕ) (bs : List ℕ) → all is_printable (b ∷ bs) ≡ true → (eqb b 0 ≡ false) × (all is_printable bs ≡ true)
printable_cons b bs e =
    let u = both_true (is_printable b) (all is_printable bs) e in
    (ne_eqb b 0 (λ z. omega (arith, leb-true 0x21 b (passes 0 (leb 0x21 b ∷ leb b 0x7E ∷ []) u.0))), u.1)

before_name : (name : List ℕ) (k : ℕ) → all is_printable name ≡ true → before_zero (name ++ replicate k 0) ≡ name
unfolding before_zero
before_name [] zero h = refl
before_name [] (suc k) h = refl
before_name (b ∷ name) k h = let q = printable_cons b name h in rw (q.0, before_name name k q.1)

all_zeros : (k : ℕ) → all is_zero (replicate k 0) ≡ true
all_zeros zero = refl
all_zeros (suc k) = all_zeros k

pub length-magic : length magic ≡ 8
unfolding magic
length-magic = refl

pub length_header : (len kind sum offset : ℕ) → length (header_bytes len kind sum offset) ≡ 24
unfolding header_bytes magic
length_header len kind sum offset = simp (length-append, length-be_bytes) refl

pub length-field : (name : List ℕ) → length (field_bytes name) ≡ field_length (length name)
unfolding field_bytes
length-field name = simp (length-append, length-replicate) (omega (arith, field_fits_lem (length name)))

length-span_stating : (sum : ℕ) (name : List ℕ) (kind : ℕ) (content : List ℕ) → length (span_stating sum name kind content) ≡ offset_for name + length content
unfolding span_stating
length-span_stating sum name kind content = simp (length-append, length_header, length-field) (omega arith)

pub length_span : (name : List ℕ) (kind : ℕ) (content : List ℕ) → length (span_bytes name kind content) ≡ offset_for name + length content
unfolding span_bytes
length_span name kind content = length-span_stating (sum_for name kind content) name kind content

pub total-magic : total magic ≡ 590
unfolding magic total
total-magic = refl

pub total_zeros : (k : ℕ) → total (replicate k 0) ≡ 0
unfolding total
total_zeros zero = refl
total_zeros (suc k) = omega (arith, total_zeros k)

-- A header's fields are read as they were written, whatever follows it.
module _ (len kind sum offset : ℕ) (rest : List ℕ) where
  abbrev h : List ℕ
  h = header_bytes len kind sum offset ++ rest

  pub header_magic_lem : starts_with_magic h ≡ true
  unfolding header_bytes magic starts_with_magic eq_bytes
  header_magic_lem = refl

  -- Field by field.
  split : h ≡ magic ++ (be_bytes 4 len ++ (be_bytes 4 kind ++ (be_bytes 4 sum ++ (be_bytes 4 offset ++ rest))))
  unfolding header_bytes
  split = simp append_assoc

  pub header_len : len < 256 ^ 4 → be 4 h 8 ≡ len
  header_len l = rw split (be-be_bytes 4 len magic (be_bytes 4 kind ++ (be_bytes 4 sum ++ (be_bytes 4 offset ++ rest))) 8 length-magic l)

  eight : (v : ℕ) → length (magic ++ be_bytes 4 v) ≡ 12
  eight v = simp (length-append, length-magic, length-be_bytes) refl

  pub header_kind : kind < 256 ^ 4 → be 4 h 12 ≡ kind
  header_kind l =
      rw (split, ← append_assoc magic (be_bytes 4 len) (be_bytes 4 kind ++ (be_bytes 4 sum ++ (be_bytes 4 offset ++ rest))))
      (be-be_bytes 4 kind (magic ++ be_bytes 4 len) (be_bytes 4 sum ++ (be_bytes 4 offset ++ rest)) 12 (eight len) l)

  front : List ℕ
  front = magic ++ (be_bytes 4 len ++ (be_bytes 4 kind ++ be_bytes 4 sum))

  front_length : length front ≡ 20
  unfolding front
  front_length = simp (length-append, length-magic, length-be_bytes) refl

  regroup : h ≡ front ++ (be_bytes 4 offset ++ rest)
  unfolding header_bytes front
  regroup = simp append_assoc

  pub header_offset : offset < 256 ^ 4 → be 4 h 20 ≡ offset
  header_offset l = rw regroup (be-be_bytes 4 offset front rest 20 front_length l)

  -- Round the checksum.
  before_sum : List ℕ
  before_sum = magic ++ (be_bytes 4 len ++ be_bytes 4 kind)

  before_length : length before_sum ≡ 16
  unfolding before_sum
  before_length = simp (length-append, length-magic, length-be_bytes) refl

  round_sum : h ≡ before_sum ++ (be_bytes 4 sum ++ (be_bytes 4 offset ++ rest))
  unfolding header_bytes before_sum
  round_sum = simp append_assoc

  -- The checksum is the sum that is stated.
  pub header_checksum : sum < 256 ^ 4 → be 4 h 16 ≡ sum
  header_checksum l = rw round_sum (be-be_bytes 4 sum before_sum (be_bytes 4 offset ++ rest) 16 before_length l)

  counted : total before_sum ≡ 590 + (total (be_bytes 4 len) + total (be_bytes 4 kind))
  unfolding before_sum
  counted = rw (total-append magic (be_bytes 4 len ++ be_bytes 4 kind), total-append (be_bytes 4 len) (be_bytes 4 kind), total-magic)

  -- The four bytes of the checksum are not counted, nor what stands there.
  header_total : total (checksum_zeroed h) ≡ 590 + total (be_bytes 4 len) + total (be_bytes 4 kind) + total (be_bytes 4 offset) + total rest
  header_total =
      let f : take 16 h ≡ before_sum = rw round_sum (take_at before_sum (be_bytes 4 sum ++ (be_bytes 4 offset ++ rest)) 16 before_length) in
      let d : drop 20 h ≡ be_bytes 4 offset ++ rest = rw regroup (drop_at front (be_bytes 4 offset ++ rest) 20 front_length) in
      let e : total (checksum_zeroed h) ≡ total before_sum + (total (be_bytes 4 offset) + total rest) =
      total_zeroed h ∙ rw (f, d, total-append (be_bytes 4 offset) rest) in
      omega (arith, e, counted)

-- The sum of a component that is written: 590 for the magic, then len, type and offset, the name and the content.

abbrev pub by_parts : List ℕ → ℕ → List ℕ → ℕ
by_parts name kind content =
    590 + total (be_bytes 4 (length content)) + total (be_bytes 4 kind) + total (be_bytes 4 (offset_for name)) + (total name + total content)

pub span_total : (sum : ℕ) (name : List ℕ) (kind : ℕ) (content : List ℕ)
    → total (checksum_zeroed (span_stating sum name kind content)) ≡ by_parts name kind content
unfolding span_stating field_bytes
span_total sum name kind content = omega (arith, header_total (length content) kind sum (offset_for name) (field_bytes name ++ content), field)
  where
    field : total (field_bytes name ++ content) ≡ total name + total content
    field =
        let n = field_length (length name) - length name in
        rw (total-append (field_bytes name) content, total-append name (replicate n 0), total_zeros n) (omega arith)

pub span_sum_lem : (sum : ℕ) (name : List ℕ) (kind : ℕ) (content : List ℕ) → span_sum (span_stating sum name kind content)
    ≡ by_parts name kind content % 4294967296
unfolding span_sum
span_sum_lem sum name kind content = ap (λ (x : ℕ). x % 4294967296) (span_total sum name kind content)

-- What is written states the right sum.
pub sum_written : (name : List ℕ) (kind : ℕ) (content : List ℕ) → span_sum (span_bytes name kind content) ≡ sum_for name kind content
unfolding span_bytes sum_for
sum_written name kind content = span_sum_lem (sum_for name kind content) name kind content ∙ sym (span_sum_lem 0 name kind content)

sum_small : (name : List ℕ) (kind : ℕ) (content : List ℕ) → sum_for name kind content < 256 ^ 4
unfolding sum_for
sum_small name kind content = rw (span_sum_lem 0 name kind content) (below _)
  where
    below : (n : ℕ) → n % 4294967296 < 256 ^ 4
    below n = omega arith

pub sum_read : (name : List ℕ) (kind : ℕ) (content : List ℕ) → checksum_of (span_bytes name kind content) ≡ sum_for name kind content
unfolding span_bytes span_stating
sum_read name kind content =
    header_checksum (length content) kind (sum_for name kind content) (offset_for name) (field_bytes name ++ content) (sum_small name kind content)

pub sum_fits : (name : List ℕ) (kind : ℕ) (content : List ℕ) → checksum_matches (span_bytes name kind content) ≡ true
unfolding checksum_matches
sum_fits name kind content =
    let n = sum_for name kind content in
    rw (sum_read name kind content, sum_written name kind content, eq-eqb n n refl) (go (eqb n 0))
  where
    go : (b : Bool) → cond b true true ≡ true
    go true = refl
    go false = refl

module _ (name : List ℕ) (kind : ℕ) (content rest : List ℕ) (fit : Fit name) (typed : kind < 256 ^ 4) (len-fits : length content < 256 ^ 4) where
  abbrev s : List ℕ
  s = span_bytes name kind content ++ rest

  abbrev sum : ℕ
  sum = sum_for name kind content

  parts : s ≡ header_bytes (length content) kind sum (offset_for name) ++ (field_bytes name ++ (content ++ rest))
  unfolding span_bytes span_stating
  parts = simp append_assoc

  offset_is : offset_of s ≡ offset_for name
  offset_is =
      rw parts (header_offset (length content) kind sum (offset_for name) (field_bytes name ++ (content ++ rest))
      (omega (arith, field_most (length name) fit.short)))

  len_is : len_of s ≡ length content
  len_is = rw parts (header_len (length content) kind sum (offset_for name) (field_bytes name ++ (content ++ rest)) len-fits)

  kind_is : kind_of s ≡ kind
  kind_is = rw parts (header_kind (length content) kind sum (offset_for name) (field_bytes name ++ (content ++ rest)) typed)

  checksum_is : checksum_of s ≡ sum
  checksum_is = rw parts (header_checksum (length content) kind sum (offset_for name) (field_bytes name ++ (content ++ rest)) (sum_small name kind content))

  after_header : drop 24 s ≡ field_bytes name ++ (content ++ rest)
  after_header =
      rw parts (drop_at (header_bytes (length content) kind sum (offset_for name)) (field_bytes name ++ (content ++ rest)) 24
      (length_header (length content) kind sum (offset_for name)))

  field_is : name_field s ≡ field_bytes name
  field_is =
      let e : offset_for name - 24 ≡ field_length (length name) = omega arith in
      rw (offset_is, e, after_header) (take_at (field_bytes name) (content ++ rest) (field_length (length name)) (length-field name))

  before_is : before_zero (field_bytes name) ≡ name
  unfolding field_bytes
  before_is = before_name name (field_length (length name) - length name) fit.printable

  name_fits_lem : name_fits name ≡ true
  unfolding name_fits name_tests
  name_fits_lem = rw (le-leb 1 (length name) fit.some_byte, le-leb (length name) 255 fit.short, fit.printable)

  zeros_after : drop (length name) (field_bytes name) ≡ replicate (field_length (length name) - length name) 0
  unfolding field_bytes
  zeros_after = drop_at name (replicate (field_length (length name) - length name) 0) (length name) refl

  named_is : field_fits (field_bytes name) ≡ true
  unfolding field_fits field_tests
  named_is = rw (
    before_is,
    lt-ltb (length name) (length (field_bytes name)) (omega (arith, length-field name, field_fits_lem (length name))),
    name_fits_lem,
    zeros_after,
    all_zeros (field_length (length name) - length name),
  )

  content_is : take (length content) (drop (offset_for name) s) ≡ content
  content_is =
      rw (
        ← drop-drop (field_length (length name)) 24 s,
        after_header,
        drop_at (field_bytes name) (content ++ rest) (field_length (length name)) (length-field name),
      )
      (take_at content rest (length content) refl)

  read_is : component_of s ≡ new_component name kind content
  unfolding component_of
  read_is = rw (field_is, offset_is, len_is, kind_is, checksum_is, before_is, content_is)

  long : offset_for name + length content ≤ length s
  long = simp (length-append, length_span) (omega arith)

  -- The round trip: a written component judges as what was written.
  pub judge-written : judge s ≡ Some (new_component name kind content)
  judge-written = unformed s (new_component name kind content) (record {
    magic = rw parts (header_magic_lem (length content) kind sum (offset_for name) (field_bytes name ++ (content ++ rest)));
    long = omega (arith, long);
    least = omega (arith, offset_is, field_least (length name));
    most = omega (arith, offset_is, field_most (length name) fit.short);
    whole = rw offset_is (even (field_length (length name)) (field_whole (length name)));
    fits = omega (arith, long, offset_is, len_is);
    named = rw field_is named_is;
    summed =
        rw (offset_is, len_is, take_at (span_bytes name kind content) rest (offset_for name + length content) (length_span name kind content))
        (sum_fits name kind content);
    read = read_is;
  })
    where
      even : (n : ℕ) → n % 16 ≡ 0 → (24 + n - 24) % 16 ≡ 0
      even n z = let e : 24 + n - 24 ≡ n = omega arith in rw e z

get_d_right : (u v : List ℕ) (i : ℕ) → length u ≤ i → get_or (u ++ v) i 0 ≡ get_or v (i - length u) 0
get_d_right u v i h = let e : i ≡ length u + (i - length u) = omega arith in ap (λ (n : ℕ). get_or (u ++ v) n 0) e ∙ get_or-append-add u v (i - length u) 0

-- A region with a run filled: its length, the bytes outside the run, those that were put, and those after them.
module _ (r : List ℕ) (x : Run) (s : List ℕ) (fits : x.from + length s ≤ x.to) (inside : x.to ≤ length r) where
  abbrev fore : List ℕ
  fore = take x.from r

  abbrev ones : List ℕ
  ones = replicate (x.to - x.from - length s) 0xFF

  abbrev aft : List ℕ
  aft = drop x.to r

  fore_length : length fore ≡ x.from
  fore_length = length-take-le x.from r (omega arith)

  ones_length : length ones ≡ x.to - x.from - length s
  ones_length = length-replicate {A = ℕ} (x.to - x.from - length s) 0xFF

  filled_splice : slot_filled r x s ≡ splice r x.from (s ++ ones)
  unfolding slot_filled
  filled_splice = refl

  filled_is : slot_filled r x s ≡ fore ++ (s ++ (ones ++ aft))
  unfolding splice
  filled_is =
      let e : x.from + length (s ++ ones) ≡ x.to = simp length-append (omega (arith, ones_length)) in
      filled_splice ∙ rw (e, append_assoc s ones aft)

  pub filled_length : length (slot_filled r x s) ≡ length r
  filled_length = rw filled_is (simp (length-append, length-replicate, length-drop, fore_length) (omega arith))

  pub filled_before : (i : ℕ) → i < x.from → get_or (slot_filled r x s) i 0 ≡ get_or r i 0
  filled_before i h = rw filled_is (get_or-append fore (s ++ (ones ++ aft)) 0 i (omega (arith, fore_length)) ∙ get_or-take x.from r i 0 h)

  from_run : (i : ℕ) → x.from ≤ i → get_or (slot_filled r x s) i 0 ≡ get_or (s ++ (ones ++ aft)) (i - x.from) 0
  from_run i h = ap (λ (l : List ℕ). get_or l i 0) filled_is ∙ get_d_right fore (s ++ (ones ++ aft)) i (omega (arith, fore_length)) ∙ rw fore_length

  pub filled_bytes_at : BytesAt (slot_filled r x s) x.from s
  filled_bytes_at = (
    omega (arith, filled_length),
    λ k h. let e : x.from + k - x.from ≡ k = omega arith in
        from_run (x.from + k) (omega arith) ∙ ap (λ (n : ℕ). get_or (s ++ (ones ++ aft)) n 0) e ∙ get_or-append s (ones ++ aft) 0 k h,
  )

  from_ones : (i : ℕ) → x.from + length s ≤ i → get_or (slot_filled r x s) i 0 ≡ get_or (ones ++ aft) (i - x.from - length s) 0
  from_ones i h = from_run i (omega arith) ∙ get_d_right s (ones ++ aft) (i - x.from) (omega arith)

  pub filled_ones : (i : ℕ) → x.from + length s ≤ i → i < x.to → get_or (slot_filled r x s) i 0 ≡ 255
  filled_ones i h k = from_ones i h ∙ get_or-append ones aft 0 (i - x.from - length s) (omega (arith, ones_length))
      ∙ get_or-replicate (x.to - x.from - length s) (i - x.from - length s) 0xFF 0 (omega arith)

  pub filled_after : (i : ℕ) → x.to ≤ i → get_or (slot_filled r x s) i 0 ≡ get_or r i 0
  filled_after i h =
      let e : x.to + (i - x.from - length s - length ones) ≡ i = omega (arith, ones_length) in
      from_ones i (omega arith) ∙ get_d_right ones aft (i - x.from - length s) (omega (arith, ones_length))
      ∙ get_or-drop x.to r (i - x.from - length s - length ones) 0 ∙ rw e

  -- What begins where the run does.
  pub filled_part : drop x.from (slot_filled r x s) ≡ s ++ (ones ++ aft)
  filled_part = rw filled_is (drop_at fore (s ++ (ones ++ aft)) x.from fore_length)
