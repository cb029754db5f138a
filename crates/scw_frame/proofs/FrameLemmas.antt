-- Frames in memory: what a value more or less, and a frame more or less, leaves.
use Rattle.std.proofs.Common.{◌≡◌, ℕ, ◌+◌, ◌-◌, ◌<◌, ◌≤◌, suc, zero, List, [], ◌∷◌, ◌++◌, length, take, drop, set, replicate, reverse, nat_le, ◌&&◌, Bool, true, false, IsTrue, sym, ◌∙◌, ap, refl, arith}
use Rattle.std.proofs.lemmas.List.{length-drop, length-take, length-take-le, length-reverse, length-append, reverse-append, reverse-reverse, take-append-drop, take-set-le, take-take, drop-drop, length-replicate}
use Rattle.std.proofs.lemmas.Bool.{leb-true}
use Rattle.std.proofs.Math.Seq.{drop-append_seam, take-append_seam}
use Rattle.scw_frame.specs.declared.value.Value.{Value}
use Rattle.scw_frame.specs.declared.value.Value.TheVariants.{Unset, Int, Long, Reference}
use Rattle.scw_frame.specs.declared.frames.Activation.{Activation}
use Rattle.scw_frame.specs.declared.program.MethodNumber.{MethodNumber}
use Rattle.scw_frame.specs.Frame.{Calls, arguments, places_of, places, pushed, spread, words, words_in, locals_of, entered, can_enter}
use Rattle.scw_frame.specs.FrameLayout.{Fits, AllFit, calls_of, frames_of, words_for_all, operands_below, locals_below}

-- a value takes a place at least
pub places_of-some : (v : Value) → 1 ≤ places_of v
places_of-some Unset = omega arith
places_of-some (Int n) = omega arith
places_of-some (Long n) = omega arith
places_of-some (Reference r) = omega arith

pub length-le-places : (vs : List Value) → length vs ≤ places vs
length-le-places [] = omega arith
length-le-places (v ∷ vs) = omega (arith, length-le-places vs, places_of-some v)

-- a frame has at most as many values as places
pub operands-le-room : (a : Activation) (operands locals : List Value) → Fits a operands locals → a.operands ≤ a.depth
operands-le-room a operands locals h =
    omega (arith, length-le-places (take a.operands operands), length-take-le a.operands operands h.operands_there, h.depth)

-- all values and local variables lie within the words of the frames
pub operands-le-words : (more : List Activation) (operands locals : List Value) → AllFit more operands locals → length operands ≤ words_for_all more
operands-le-words [] operands locals h = rw h.0 (omega arith)
operands-le-words (a ∷ more) operands locals h =
    omega (arith, operands-le-words more (operands_below a operands) (locals_below a locals) h.1, operands-le-room a operands locals h.0, h.0.within, length-drop a.operands operands)

pub locals-le-words : (more : List Activation) (operands locals : List Value) → AllFit more operands locals → length locals ≤ words_for_all more
locals-le-words [] operands locals h = rw h.1 (omega arith)
locals-le-words (a ∷ more) operands locals h =
    omega (arith, locals-le-words more (operands_below a operands) (locals_below a locals) h.1, h.0.locals_there, length-take (length locals - a.locals) locals)

pub take-nil : (n : ℕ) → [] ≡ take {A = Value} n []
take-nil zero = refl
take-nil (suc n) = refl

-- the top of a stack that isn't empty
pub take-popped : (n : ℕ) (v : Value) (vs : List Value) → 0 < n → take n (v ∷ vs) ≡ v ∷ take (n - 1) vs
take-popped zero v vs h = absurd (omega arith)
take-popped (suc n) v vs h = let e : suc n - 1 ≡ n = omega arith in rw e refl

pub drop-popped : (n : ℕ) (v : Value) (vs : List Value) → 0 < n → drop n (v ∷ vs) ≡ drop (n - 1) vs
drop-popped zero v vs h = absurd (omega arith)
drop-popped (suc n) v vs h = let e : suc n - 1 ≡ n = omega arith in rw e refl

-- the frame without its top
abbrev pub popped : Activation → ℕ → Activation
popped a depth = record a { depth = depth; operands = a.operands - 1 }

pub Fits-popped : (a : Activation) (v : Value) (operands locals : List Value) → 0 < a.operands → Fits a (v ∷ operands) locals → Fits (popped a (a.depth - places_of v)) operands locals
Fits-popped a v operands locals some h =
    let e : places (take a.operands (v ∷ operands)) ≡ places_of v + places (take (a.operands - 1) operands) = ap places (take-popped a.operands v operands some) in
    let l : a.operands ≤ suc (length operands) = h.operands_there in
    record {
      operands_there = omega arith;
      locals_there = h.locals_there;
      depth = omega (arith, h.depth);
      within = omega (arith, h.within);
    }

-- the value on top takes no more places than the stack
pub top-le-depth : (a : Activation) (v : Value) (operands locals : List Value) → 0 < a.operands → Fits a (v ∷ operands) locals → places_of v ≤ a.depth
top-le-depth a v operands locals some h =
    let e : places (take a.operands (v ∷ operands)) ≡ places_of v + places (take (a.operands - 1) operands) = ap places (take-popped a.operands v operands some) in
    omega (arith, h.depth)

pub calls_of-popped : (a : Activation) (depth : ℕ) (more : List Activation) (v : Value) (operands locals : List Value) (most_frames most_words : ℕ) → 0 < a.operands →
    calls_of a more (v ∷ operands) locals most_frames most_words ≡ pushed v (calls_of (popped a depth) more operands locals most_frames most_words)
calls_of-popped a depth more v operands locals most_frames most_words some =
    rw (take-popped a.operands v operands some, drop-popped a.operands v operands some) refl

-- the first of a list turned round are the last of the list
pub drop-reverse : (n : ℕ) (xs : List Value) → n ≤ length xs → drop n (reverse xs) ≡ reverse (take (length xs - n) xs)
drop-reverse n xs h =
    let k : ℕ = length xs - n in
    let parts : reverse xs ≡ reverse (drop k xs) ++ reverse (take k xs) =
    ap reverse (sym (take-append-drop k xs)) ∙ reverse-append (take k xs) (drop k xs) in
    let size : length (reverse (drop k xs)) ≡ n = length-reverse (drop k xs) ∙ length-drop k xs ∙ omega arith in
    let front : List Value = reverse (drop k xs) in
    ap (drop n) parts ∙ ap (λ m. drop m (front ++ reverse (take k xs))) (sym size) ∙ drop-append_seam front (reverse (take k xs))

-- the last operands are gone
pub reverse-below : (n : ℕ) (xs ys : List Value) → n ≤ length (reverse xs) → ys ≡ take (length xs - n) xs → reverse ys ≡ drop n (reverse xs)
reverse-below n xs ys h e = ap reverse e ∙ sym (drop-reverse n xs (omega (arith, length-reverse xs)))

-- no local variable below those of the frame is another
pub take-set-above : (k i : ℕ) (v : Value) (xs : List Value) → take k (set xs (k + i) v) ≡ take k xs
take-set-above k i v xs = take-set-le k xs (k + i) v (omega arith)

-- what callers see of the counts
pub length-frames_of : (more : List Activation) (operands locals : List Value) → length (frames_of more operands locals) ≡ length more
length-frames_of [] operands locals = refl
length-frames_of (a ∷ more) operands locals = ap suc (length-frames_of more (operands_below a operands) (locals_below a locals))

pub words_in-frames_of : (more : List Activation) (operands locals : List Value) → AllFit more operands locals → words_in (frames_of more operands locals) ≡ words_for_all more
words_in-frames_of [] operands locals h = refl
words_in-frames_of (a ∷ more) operands locals h =
    omega (arith, words_in-frames_of more (operands_below a operands) (locals_below a locals) h.1, length-drop (length locals - a.locals) locals, h.0.locals_there)

-- ---- arguments

pub places-append : (vs us : List Value) → places (vs ++ us) ≡ places vs + places us
places-append [] us = omega arith
places-append (v ∷ vs) us = omega (arith, places-append vs us)

pub places-reverse : (vs : List Value) → places (reverse vs) ≡ places vs
places-reverse [] = refl
places-reverse (v ∷ vs) =
    ap places (reverse-append (v ∷ []) vs) ∙ places-append (reverse vs) (v ∷ []) ∙ omega (arith, places-reverse vs)

pub length-spread : (vs : List Value) → length (spread vs) ≡ places vs
length-spread [] = refl
length-spread (Unset ∷ vs) = omega (arith, length-spread vs)
length-spread (Int n ∷ vs) = omega (arith, length-spread vs)
length-spread (Long n ∷ vs) = omega (arith, length-spread vs)
length-spread (Reference r ∷ vs) = omega (arith, length-spread vs)

-- the first of a list turned round, turned round again, are its last
pub reverse-top : (n : ℕ) (xs : List Value) → n ≤ length xs → reverse (take n (reverse xs)) ≡ drop (length xs - n) xs
reverse-top n xs h =
    let k : ℕ = length xs - n in
    let parts : reverse xs ≡ reverse (drop k xs) ++ reverse (take k xs) =
    ap reverse (sym (take-append-drop k xs)) ∙ reverse-append (take k xs) (drop k xs) in
    let size : length (reverse (drop k xs)) ≡ n = length-reverse (drop k xs) ∙ length-drop k xs ∙ omega arith in
    let front : List Value = reverse (drop k xs) in
    ap reverse (ap (take n) parts ∙ ap (λ m. take m (front ++ reverse (take k xs))) (sym size) ∙ take-append_seam front (reverse (take k xs))) ∙ reverse-reverse (drop k xs)

-- arguments are the last values in memory
pub arguments-top : (n count : ℕ) (xs : List Value) → count ≤ n → n ≤ length (reverse xs) → reverse (take count (take n (reverse xs))) ≡ drop (length xs - count) xs
arguments-top n count xs h l =
    ap reverse (take-take count n (reverse xs) h) ∙ reverse-top count xs (omega (arith, length-reverse xs))

-- a frame that waits for a call
pub drop-take : (k n : ℕ) (vs : List Value) → k ≤ n → drop k (take n vs) ≡ take (n - k) (drop k vs)
drop-take zero n vs h = let e : n - 0 ≡ n = omega arith in rw e refl
drop-take (suc k) zero vs h = absurd (omega arith)
drop-take (suc k) (suc n) [] h = take-nil (suc n - suc k)
drop-take (suc k) (suc n) (v ∷ vs) h =
    let e : suc n - suc k ≡ n - k = omega arith in rw e (drop-take k n vs (omega arith))

abbrev pub waiting : Activation → ℕ → ℕ → Activation
waiting a count depth = record a { operands = a.operands - count; depth = depth }

-- the memory of a call
abbrev pub opened : MethodNumber → ℕ → ℕ → Activation
opened method room locals = record { method = method; place = 0; room = room; depth = 0; operands = 0; locals = locals }

-- the local variables of a frame are behind the others
pub own-locals : (ls added : List Value) (count : ℕ) → length added ≡ count → drop (length (ls ++ added) - count) (ls ++ added) ≡ added
own-locals ls added count e =
    let n : length (ls ++ added) - count ≡ length ls = omega (arith, length-append ls added) in
    rw n (drop-append_seam ls added)

pub other-locals : (ls added : List Value) (count : ℕ) → length added ≡ count → take (length (ls ++ added) - count) (ls ++ added) ≡ ls
other-locals ls added count e =
    let n : length (ls ++ added) - count ≡ length ls = omega (arith, length-append ls added) in
    rw n (take-append_seam ls added)

pub length-filled : (vs : List Value) (count : ℕ) → length vs ≤ count → length (vs ++ replicate (count - length vs) Unset) ≡ count
length-filled vs count h =
    length-append vs (replicate (count - length vs) Unset) ∙ omega (arith, length-replicate {A = Value} (count - length vs) Unset)

pub Fits-waiting : (a : Activation) (count : ℕ) (operands locals : List Value) → count ≤ a.operands → Fits a operands locals →
    Fits (waiting a count (a.depth - places (take count operands))) (drop count operands) locals
Fits-waiting a count operands locals h f =
    let parts : take a.operands operands ≡ take count operands ++ take (a.operands - count) (drop count operands) =
    sym (take-append-drop count (take a.operands operands)) ∙ rw (take-take count a.operands operands h, drop-take count a.operands operands h) refl in
    let sum : places (take a.operands operands) ≡ places (take count operands) + places (take (a.operands - count) (drop count operands)) =
    ap places parts ∙ places-append (take count operands) (take (a.operands - count) (drop count operands)) in
    record {
      operands_there = omega (arith, length-drop count operands, f.operands_there);
      locals_there = f.locals_there;
      depth = omega (arith, f.depth);
      within = omega (arith, f.within);
    }

-- the arguments take no more places than the stack
pub arguments-le-depth : (a : Activation) (count : ℕ) (operands locals : List Value) → count ≤ a.operands → Fits a operands locals → places (take count operands) ≤ a.depth
arguments-le-depth a count operands locals h f =
    let parts : take a.operands operands ≡ take count operands ++ take (a.operands - count) (drop count operands) =
    sym (take-append-drop count (take a.operands operands)) ∙ rw (take-take count a.operands operands h, drop-take count a.operands operands h) refl in
    let sum : places (take a.operands operands) ≡ places (take count operands) + places (take (a.operands - count) (drop count operands)) =
    ap places parts ∙ places-append (take count operands) (take (a.operands - count) (drop count operands)) in
    omega (arith, f.depth)

-- so the last values in memory take no more places either
pub arguments-within : (a : Activation) (count : ℕ) (xs locals : List Value) → count ≤ a.operands → Fits a (reverse xs) locals → places (drop (length xs - count) xs) ≤ a.depth
arguments-within a count xs locals h f =
    let top : reverse (take count (reverse xs)) ≡ drop (length xs - count) xs = reverse-top count xs (omega (arith, length-reverse xs, f.operands_there)) in
    omega (arith, ap places top, places-reverse (take count (reverse xs)), arguments-le-depth a count (reverse xs) locals h f)

-- the memory after a call is that of the frames after it
pub calls_of-entered : (a : Activation) (more : List Activation) (operands ls : List Value) (most_frames most_words : ℕ) (method : MethodNumber) (room locals count depth : ℕ) →
    count ≤ a.operands → places (take count operands) ≤ locals →
    calls_of (opened method room locals) (waiting a count depth ∷ more) (drop count operands) (ls ++ locals_of locals (reverse (take count operands))) most_frames most_words
    ≡ entered method room locals count (calls_of a more operands ls most_frames most_words)
calls_of-entered a more operands ls most_frames most_words method room locals count depth h l =
    let args : List Value = reverse (take count operands) in
    let size : length (locals_of locals args) ≡ locals =
    length-filled (spread args) locals (omega (arith, length-spread args, places-reverse (take count operands))) in
    let below : count + (a.operands - count) ≡ a.operands = omega arith in
    rw (take-take count a.operands operands h, own-locals ls (locals_of locals args) locals size, other-locals ls (locals_of locals args) locals size, drop-take count a.operands operands h)
    (rw (drop-drop (a.operands - count) count operands, below) refl)

both-left : (a b : Bool) → (a && b) ≡ true → a ≡ true
both-left true b h = refl
both-left false b h = h

both-right : (a b : Bool) → (a && b) ≡ true → b ≡ true
both-right true b h = h
both-right false b h = cc

-- what callers see of the limits
pub words-calls_of : (a : Activation) (more : List Activation) (operands locals : List Value) (most_frames most_words : ℕ) → AllFit (a ∷ more) operands locals →
    words (calls_of a more operands locals most_frames most_words) ≡ words_for_all (a ∷ more)
words-calls_of a more operands locals most_frames most_words h =
    omega (arith, words_in-frames_of more (operands_below a operands) (locals_below a locals) h.1, length-drop (length locals - a.locals) locals, h.0.locals_there)

pub can_enter-calls_of : (a : Activation) (more : List Activation) (operands locals : List Value) (most_frames most_words room added : ℕ) → AllFit (a ∷ more) operands locals →
    can_enter room added (calls_of a more operands locals most_frames most_words)
    ≡ (nat_le (length more + 2) most_frames && nat_le (words_for_all (a ∷ more) + 1 + room + added) most_words)
can_enter-calls_of a more operands locals most_frames most_words room added h =
    rw (length-frames_of more (operands_below a operands) (locals_below a locals), words-calls_of a more operands locals most_frames most_words h) refl

-- ---- a call

-- what a call asks
pub record Enters (a : Activation) (callers : List Activation) (items : List Value) (in_use most_frames most_words room locals count : ℕ) : Type 0 where
  pub taken : count ≤ a.operands
  pub fit : places (take count (reverse items)) ≤ locals
  pub depth : places (take count (reverse items)) ≤ a.depth
  pub frames : length callers + 1 < most_frames
  pub words : in_use + 1 + room + locals ≤ most_words

pub Enters-from : (a : Activation) (callers : List Activation) (items ls : List Value) (in_use most_frames most_words : ℕ) (room locals count : ℕ) →
    AllFit (a ∷ reverse callers) (reverse items) ls → in_use ≡ words_for_all (a ∷ reverse callers) →
    count ≤ length (take a.operands (reverse items)) →
    places (reverse (take count (take a.operands (reverse items)))) ≤ locals →
    can_enter room locals (calls_of a (reverse callers) (reverse items) ls most_frames most_words) ≡ true →
    Enters a callers items in_use most_frames most_words room locals count
Enters-from a callers items ls in_use most_frames most_words room locals count h used taken fit limits =
    let within : count ≤ a.operands = omega (arith, length-take-le a.operands (reverse items) h.0.operands_there) in
    let top : places (take count (take a.operands (reverse items))) ≡ places (take count (reverse items)) =
    ap places (take-take count a.operands (reverse items) within) in
    let both : (nat_le (length (reverse callers) + 2) most_frames && nat_le (words_for_all (a ∷ reverse callers) + 1 + room + locals) most_words) ≡ true = sym (can_enter-calls_of a (reverse callers) (reverse items) ls most_frames most_words room locals h) ∙ limits in
    record {
      taken = within;
      fit = omega (arith, places-reverse (take count (take a.operands (reverse items))));
      depth = arguments-le-depth a count (reverse items) ls within h.0;
      frames = omega (arith, length-reverse callers, leb-true (length (reverse callers) + 2) most_frames (both-left (nat_le (length (reverse callers) + 2) most_frames) (nat_le (words_for_all (a ∷ reverse callers) + 1 + room + locals) most_words) both));
      words = omega (arith, leb-true (words_for_all (a ∷ reverse callers) + 1 + room + locals) most_words (both-right (nat_le (length (reverse callers) + 2) most_frames) (nat_le (words_for_all (a ∷ reverse callers) + 1 + room + locals) most_words) both));
    }

pub Enters-seen : (a : Activation) (callers : List Activation) (items ls : List Value) (in_use most_frames most_words : ℕ) (room locals count : ℕ) (now : Calls) →
    calls_of a (reverse callers) (reverse items) ls most_frames most_words ≡ now →
    AllFit (a ∷ reverse callers) (reverse items) ls → in_use ≡ words_for_all (a ∷ reverse callers) →
    count ≤ length now.current.stack → places (arguments count now) ≤ locals → IsTrue (can_enter room locals now) →
    Enters a callers items in_use most_frames most_words room locals count
Enters-seen a callers items ls in_use most_frames most_words room locals count now e h used taken fit limits =
    Enters-from a callers items ls in_use most_frames most_words room locals count h used (rw (← e) at taken) (rw (← e) at fit) (rw (← e) at limits)

-- the arguments in memory, which the call puts as local variables
pub arguments-last : (a : Activation) (count : ℕ) (items ls : List Value) → count ≤ a.operands → Fits a (reverse items) ls →
    drop (length items - count) items ≡ reverse (take count (reverse items))
arguments-last a count items ls h f = sym (reverse-top count items (omega (arith, length-reverse items, f.operands_there)))

-- the memory after a call
pub AllFit-entered : (a : Activation) (more : List Activation) (operands ls : List Value) (method : MethodNumber) (room locals count : ℕ) →
    count ≤ a.operands → places (take count operands) ≤ locals → AllFit (a ∷ more) operands ls →
    AllFit (opened method room locals ∷ waiting a count (a.depth - places (take count operands)) ∷ more) (drop count operands) (ls ++ locals_of locals (reverse (take count operands)))
AllFit-entered a more operands ls method room locals count h l fit =
    let args : List Value = reverse (take count operands) in
    let added : List Value = locals_of locals args in
    let size : length added ≡ locals =
    length-filled (spread args) locals (omega (arith, length-spread args, places-reverse (take count operands))) in
    let below : count + (a.operands - count) ≡ a.operands = omega arith in (
      record {
        operands_there = omega arith;
        locals_there = omega (arith, length-append ls added);
        depth = refl;
        within = omega arith;
      },
      rw (other-locals ls added locals size) (Fits-waiting a count operands ls h fit.0, rw (drop-drop (a.operands - count) count operands, below) fit.1),
    )
