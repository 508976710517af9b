-- What is written is read back.
use Rattle.std.proofs.Common.{◌≡◌, ℕ, suc, ◌+◌, ◌*◌, ◌/◌, ◌%◌, Bool, true, false, cond, not, ◌&&◌, ◌||◌, leb, List, [], ◌∷◌, ◌++◌, length, is_some, Some, None, Option, sym, refl, ap, ◌∙◌, append_assoc, append-nil, arith, le-leb}
use Rattle.std.proofs.lemmas.Bool.{and_parts}
use Rattle.std.specs.List.{flat_map}
use Rattle.jobformat.specs.Reading.{got, bad, has, is_map, graphics, number_if, mask_if, name_if, fields, entry, records, file}
use Rattle.jobformat.specs.Format.{Entry, Contents, bit, number_bytes, mask_bytes, name_bytes, map_of, encode, graphic, all_graphic, name_fits, mask_fits, fits, AllFine, WellFormed, file_bytes}

-- the fields one after another, from b₀ on
pub whole : (r m : ℕ) (b₀ b₁ b₂ b₃ b₄ : List ℕ) (q k l : Option ℕ) (n : Option (List ℕ)) → got q b₁ ≡ number_if (has m 1) b₀ → got k b₂ ≡ mask_if (has m 2) r b₁ → got l b₃ ≡ number_if (has m 4) b₂ → got n b₄ ≡ name_if (has m 8) b₃ → got (record { quantity = q; mask = k; limit = l; name = n }) b₄ ≡ fields r m b₀
whole r m b₀ b₁ b₂ b₃ b₄ q k l n e₀ e₁ e₂ e₃ = rw (← e₀, ← e₁, ← e₂, ← e₃)

-- the map byte of four bits
abbrev pub bits : Bool → Bool → Bool → Bool → ℕ
bits a b c d = bit a 1 + bit b 2 + bit c 4 + bit d 8

pub record Bits (a b c d : Bool) : Type 0 where
  pub one : has (bits a b c d) 1 ≡ a
  pub two : has (bits a b c d) 2 ≡ b
  pub four : has (bits a b c d) 4 ≡ c
  pub eight : has (bits a b c d) 8 ≡ d
  pub map : is_map (bits a b c d) ≡ (not c || b)

pub bits_are : (a b c d : Bool) → Bits a b c d
bits_are true true true true = record { one = refl; two = refl; four = refl; eight = refl; map = refl }
bits_are true true true false = record { one = refl; two = refl; four = refl; eight = refl; map = refl }
bits_are true true false true = record { one = refl; two = refl; four = refl; eight = refl; map = refl }
bits_are true true false false = record { one = refl; two = refl; four = refl; eight = refl; map = refl }
bits_are true false true true = record { one = refl; two = refl; four = refl; eight = refl; map = refl }
bits_are true false true false = record { one = refl; two = refl; four = refl; eight = refl; map = refl }
bits_are true false false true = record { one = refl; two = refl; four = refl; eight = refl; map = refl }
bits_are true false false false = record { one = refl; two = refl; four = refl; eight = refl; map = refl }
bits_are false true true true = record { one = refl; two = refl; four = refl; eight = refl; map = refl }
bits_are false true true false = record { one = refl; two = refl; four = refl; eight = refl; map = refl }
bits_are false true false true = record { one = refl; two = refl; four = refl; eight = refl; map = refl }
bits_are false true false false = record { one = refl; two = refl; four = refl; eight = refl; map = refl }
bits_are false false true true = record { one = refl; two = refl; four = refl; eight = refl; map = refl }
bits_are false false true false = record { one = refl; two = refl; four = refl; eight = refl; map = refl }
bits_are false false false true = record { one = refl; two = refl; four = refl; eight = refl; map = refl }
bits_are false false false false = record { one = refl; two = refl; four = refl; eight = refl; map = refl }

number_back : (o : Option ℕ) (rest : List ℕ) → got o rest ≡ number_if (is_some o) (number_bytes o ++ rest)
number_back None rest = refl
number_back (Some n) rest = let e : n ≡ n % 256 + 256 * (n / 256) = omega arith in ap (λ m. got (Some m) rest) e

mask_back : (r : ℕ) (o : Option ℕ) (rest : List ℕ) → mask_fits r o ≡ true → got o rest ≡ mask_if (is_some o) r (mask_bytes o ++ rest)
mask_back r None rest h = refl
mask_back r (Some m) rest h = rw h

graphics_back : (n rest : List ℕ) → all_graphic n ≡ true → graphics (n ++ rest) (length n) ≡ got n rest
graphics_back [] rest h = refl
graphics_back (b ∷ n) rest h =
    let p = and_parts (graphic b) (all_graphic n) h in
    rw (p.0, graphics_back n rest p.1)

name_back : (o : Option (List ℕ)) (rest : List ℕ) → name_fits o ≡ true → got o rest ≡ name_if (is_some o) (name_bytes o ++ rest)
name_back None rest h = refl
name_back (Some n) rest h =
    let p = and_parts (leb 1 (length n)) (leb (length n) 20 && all_graphic n) h in
    let q = and_parts (leb (length n) 20) (all_graphic n) p.1 in
    rw (p.0, q.0, graphics_back n rest q.1)

pub entry_back : (r : ℕ) (e : Entry) (rest : List ℕ) → fits r e ≡ true → entry r (encode e ++ rest) ≡ got e rest
entry_back r e rest h =
    let p = and_parts (mask_fits r e.mask) ((not (is_some e.limit) || is_some e.mask) && name_fits e.name) h in
    let q = and_parts (not (is_some e.limit) || is_some e.mask) (name_fits e.name) p.1 in
    let b = bits_are (is_some e.quantity) (is_some e.mask) (is_some e.limit) (is_some e.name) in
    let map : is_map (map_of e) ≡ true = b.map ∙ q.0 in
    let b₃ = name_bytes e.name ++ rest in
    let b₂ = number_bytes e.limit ++ b₃ in
    let b₁ = mask_bytes e.mask ++ b₂ in
    let b₀ = number_bytes e.quantity ++ b₁ in
    let flat : (number_bytes e.quantity ++ (mask_bytes e.mask ++ (number_bytes e.limit ++ name_bytes e.name))) ++ rest ≡ b₀ = simp append_assoc in
    let all : got e rest ≡ fields r (map_of e) b₀ =
    whole r (map_of e) b₀ b₁ b₂ b₃ rest e.quantity e.mask e.limit e.name
    (number_back e.quantity b₁ ∙ ap (λ t. number_if t b₀) (sym b.one))
    (mask_back r e.mask b₂ p.0 ∙ ap (λ t. mask_if t r b₁) (sym b.two))
    (number_back e.limit b₃ ∙ ap (λ t. number_if t b₂) (sym b.four))
    (name_back e.name rest q.1 ∙ ap (λ t. name_if t b₃) (sym b.eight)) in
    ap (λ body. entry r (map_of e ∷ body)) flat ∙ ap (λ t. cond t (fields r (map_of e) b₀) (bad (length (map_of e ∷ b₀)))) map ∙ sym all

pub records_back : (r : ℕ) (es : List Entry) (rest : List ℕ) → AllFine r es → records r (length es) (flat_map encode es ++ rest) ≡ got es rest
records_back r [] rest f = refl
records_back r (e ∷ es) rest f =
    let flat : (encode e ++ flat_map encode es) ++ rest ≡ encode e ++ (flat_map encode es ++ rest) = append_assoc (encode e) (flat_map encode es) rest in
    ap (records r (suc (length es))) flat ∙ rw (entry_back r e (flat_map encode es ++ rest) f.0.held, records_back r es rest f.1)

pub file_back : (j : Contents) → WellFormed j → file (file_bytes j) ≡ got j []
file_back j w =
    let all = records_back j.nozzles j.entries [] w.fine in
    let end : flat_map encode j.entries ++ [] ≡ flat_map encode j.entries = append-nil (flat_map encode j.entries) in
    let body : records j.nozzles j.types (flat_map encode j.entries) ≡ got j.entries [] =
    sym (ap (λ l. records j.nozzles j.types l) end) ∙ ap (λ n. records j.nozzles n (flat_map encode j.entries ++ [])) (sym w.count) ∙ all in
    simp (le-leb _ _ w.some_types, le-leb _ _ w.few_types, le-leb _ _ w.some_nozzles, le-leb _ _ w.few_nozzles, body)
