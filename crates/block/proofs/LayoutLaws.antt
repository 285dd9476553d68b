-- Rows of numbers as bytes. Assumes nothing.
use Rattle.std.proofs.Common.{◌≡◌, ℕ, ◌+◌, ◌*◌, ◌/◌, ◌%◌, ◌^◌, ◌<◌, List, [], ◌∷◌, ◌++◌, length, get_or, take, sym, refl, ap, ◌∙◌, subst, arith}
use lib.Lanes.{Each1}
use Rattle.std.proofs.lemmas.List.{take_more, take_at, append_assoc, length-append, get_or-append-add}
use Rattle.std.proofs.lemmas.Nat.{shr-shr, div-add-mod'}
use Rattle.checksum.specs.Rows.{word_at}
use Rattle.block.specs.declared.shapes.Fields.{Fields}
use Rattle.block.specs.Layout.{body, bytes_of, bytes_of_all, encoded, decoded, words_at, Sound}

pub all_push : (ns : List ℕ) (n : ℕ) → bytes_of_all (ns ++ (n ∷ [])) ≡ bytes_of_all ns ++ bytes_of n
all_push [] n = refl
all_push (m ∷ ns) n = ap (λ t. bytes_of m ++ t) (all_push ns n)

pub all_more : (ns : List ℕ) (i : ℕ) → i < length ns → bytes_of_all (take (i + 1) ns) ≡ bytes_of_all (take i ns) ++ bytes_of (get_or ns i 0)
all_more ns i h = ap bytes_of_all (take_more ns i 0 h) ∙ all_push (take i ns) (get_or ns i 0)

past : (xs ys : List ℕ) (i k : ℕ) → length xs ≡ i → get_or (xs ++ ys) (i + k) 0 ≡ get_or ys k 0
past xs ys i k e = subst (λ (n : ℕ). get_or (xs ++ ys) (n + k) 0 ≡ get_or ys k 0) e (get_or-append-add xs ys k 0)

past_0 : (xs ys : List ℕ) (i : ℕ) → length xs ≡ i → get_or (xs ++ ys) i 0 ≡ get_or ys 0 0
past_0 xs ys i e = let z : i ≡ i + 0 = omega arith in ap (λ n. get_or (xs ++ ys) n 0) z ∙ past xs ys i 0 e

digits : (a b c d x y z v : ℕ) → x * 256 + d ≡ v → y * 256 + c ≡ x → z * 256 + b ≡ y → a ≡ z → a * 16777216 + b * 65536 + c * 256 + d ≡ v
digits a b c d x y z v p q r s = omega arith

whole : (v : ℕ) → v < 2 ^ 32 → v / 16777216 % 256 * 16777216 + v / 65536 % 256 * 65536 + v / 256 % 256 * 256 + v % 256 ≡ v
whole v h =
    let p : v / 65536 * 256 + v / 256 % 256 ≡ v / 256 = ap (λ n. n * 256 + v / 256 % 256) (sym (shr-shr v 8 8)) ∙ div-add-mod' (v / 256) 256 in
    let q : v / 16777216 * 256 + v / 65536 % 256 ≡ v / 65536 = ap (λ n. n * 256 + v / 65536 % 256) (sym (shr-shr v 16 8)) ∙ div-add-mod' (v / 65536) 256 in
    digits _ _ _ _ (v / 256) (v / 65536) (v / 16777216) v (div-add-mod' v 256) p q (omega arith)

pub word_back : (xs zs : List ℕ) (i v : ℕ) → length xs ≡ i → v < 2 ^ 32 → word_at (xs ++ (bytes_of v ++ zs)) i ≡ v
word_back xs zs i v e h =
    let ys = bytes_of v ++ zs in
    let a : get_or (xs ++ ys) i 0 ≡ v / 16777216 % 256 = past_0 xs ys i e in
    let b : get_or (xs ++ ys) (i + 1) 0 ≡ v / 65536 % 256 = past xs ys i 1 e in
    let c : get_or (xs ++ ys) (i + 2) 0 ≡ v / 256 % 256 = past xs ys i 2 e in
    let d : get_or (xs ++ ys) (i + 3) 0 ≡ v % 256 = past xs ys i 3 e in
    let w = whole v h in
    omega arith

pub words_back : (vs xs zs : List ℕ) (i : ℕ) → length xs ≡ i → Each1 (λ v. v < 2 ^ 32) vs → words_at (length vs) (xs ++ (bytes_of_all vs ++ zs)) i ≡ vs
words_back [] xs zs i e h = refl
words_back (v ∷ vs) xs zs i e h =
    let l : length (xs ++ bytes_of v) ≡ i + 4 = length-append xs (bytes_of v) ∙ omega arith in
    let t = ap (λ r. words_at (length vs) r (i + 4)) (sym (append_assoc xs (bytes_of v) (bytes_of_all vs ++ zs))) ∙ words_back vs (xs ++ bytes_of v) zs (i + 4) l h.1 in
    let w = word_back xs (bytes_of_all vs ++ zs) i v e h.0 in
    ap (λ r. r ∷ words_at (length vs) (xs ++ (bytes_of v ++ (bytes_of_all vs ++ zs))) (i + 4)) w ∙ ap (λ r. v ∷ r) t

length_all : (ns : List ℕ) → length (bytes_of_all ns) ≡ 4 * length ns
length_all [] = refl
length_all (n ∷ ns) = let e = length_all ns in omega arith

same_fields : (f : Fields) (a : List ℕ) (b c d e g h : ℕ) (i : List ℕ) (j : ℕ) → a ≡ f.payload → b ≡ f.kind → c ≡ f.mark → d ≡ f.slot → e ≡ f.cards → g ≡ f.block → h ≡ f.owner → i ≡ f.versions → j ≡ f.tag
    → ◌≡◌ {A = Fields} (record { payload = a; kind = b; mark = c; slot = d; cards = e; block = g; owner = h; versions = i; tag = j }) f
same_fields f a b c d e g h i j p q r s t u v w x = rw (p, q, r, s, t, u, v, w, x)

pub there_and_back : (f : Fields) (s : ℕ) → Sound f → decoded (encoded f s) ≡ f
there_and_back f s so =
    let p = f.payload in
    let q = f.kind ∷ f.mark ∷ f.slot ∷ f.cards ∷ [] in
    let n = bytes_of f.block in
    let o = bytes_of f.owner in
    let v = bytes_of_all f.versions in
    let t = bytes_of f.tag in
    let z = bytes_of s in
    let rest = q ++ (n ++ (o ++ (v ++ (t ++ z)))) in
    let l = length_all f.versions in
    let at-80 : encoded f s ≡ p ++ rest = simp append_assoc in
    let at-84 : encoded f s ≡ p ++ q ++ (n ++ (o ++ (v ++ (t ++ z)))) = simp append_assoc in
    let at-88 : encoded f s ≡ p ++ q ++ n ++ (o ++ (v ++ (t ++ z))) = simp append_assoc in
    let at-92 : encoded f s ≡ p ++ q ++ n ++ o ++ (v ++ (t ++ z)) = simp append_assoc in
    let at-120 : encoded f s ≡ p ++ q ++ n ++ o ++ v ++ (t ++ z) = simp append_assoc in
    let l-84 : length (p ++ q) ≡ 84 = simp length-append (omega arith) in
    let l-88 : length (p ++ q ++ n) ≡ 88 = simp length-append (omega arith) in
    let l-92 : length (p ++ q ++ n ++ o) ≡ 92 = simp length-append (omega arith) in
    let l-120 : length (p ++ q ++ n ++ o ++ v) ≡ 120 = simp length-append (omega arith) in
    let a : take 80 (encoded f s) ≡ f.payload = ap (take 80) at-80 ∙ take_at p rest 80 so.payload in
    let b : get_or (encoded f s) 80 0 ≡ f.kind = ap (λ r. get_or r 80 0) at-80 ∙ past p rest 80 0 so.payload in
    let c : get_or (encoded f s) 81 0 ≡ f.mark = ap (λ r. get_or r 81 0) at-80 ∙ past p rest 80 1 so.payload in
    let d : get_or (encoded f s) 82 0 ≡ f.slot = ap (λ r. get_or r 82 0) at-80 ∙ past p rest 80 2 so.payload in
    let e : get_or (encoded f s) 83 0 ≡ f.cards = ap (λ r. get_or r 83 0) at-80 ∙ past p rest 80 3 so.payload in
    let g : word_at (encoded f s) 84 ≡ f.block = ap (λ r. word_at r 84) at-84 ∙ word_back (p ++ q) (o ++ (v ++ (t ++ z))) 84 f.block l-84 so.block in
    let h : word_at (encoded f s) 88 ≡ f.owner = ap (λ r. word_at r 88) at-88 ∙ word_back (p ++ q ++ n) (v ++ (t ++ z)) 88 f.owner l-88 so.owner in
    let i : words_at 7 (encoded f s) 92 ≡ f.versions = ap (λ r. words_at 7 r 92) at-92 ∙ ap (λ k. words_at k (p ++ q ++ n ++ o ++ (v ++ (t ++ z))) 92) (sym so.versions) ∙ words_back f.versions (p ++ q ++ n ++ o) (t ++ z) 92 l-92 so.each in
    let j : word_at (encoded f s) 120 ≡ f.tag = ap (λ r. word_at r 120) at-120 ∙ word_back (p ++ q ++ n ++ o ++ v) z 120 f.tag l-120 so.tag in
    same_fields f _ _ _ _ _ _ _ _ _ a b c d e g h i j

pub length_body : (f : Fields) → Sound f → length (body f) ≡ 124
length_body f so = let l = length_all f.versions in simp length-append (omega arith)
