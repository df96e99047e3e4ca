-- What the course of a run and the delivery of what it writes promise.
use Rattle.std.proofs.Common.{◌≡◌, ◌<◌, ◌⊎◌, inl, inr, ℕ, List, Option, Some, None, length, refl, sym, ap, ◌∙◌, subst, arith}
use Rattle.std.specs.Prelude.{IfSome, String}
use Rattle.std.specs.Global.{Global}
use Rattle.asn_check.specs.declared.linked.Linked.{Linked}
use Rattle.asn_check.specs.Linked.{IsLinkedOf}
use Rattle.asn_names.specs.Definitions.{Module}
use Rattle.asn_rules.specs.Expression.{rule}
use Rattle.asn_rules.specs.Runs.{Ending, ends, fails, ExactlyOne}
use Rattle.asn_rules.specs.Valid.{Fails, IsDeeper, IsValid}
use Rattle.asn_rules.specs.Whole.{whole_rules}
use Rattle.asn_streams.specs.Sink.{Takes}
use Rattle.asn_streams.specs.Stream.{StreamState}
use Rattle.asn_streams.specs.Taking.{limit}
use Rattle.asn_tool.specs.declared.ended.Ended.{Ended}
use Rattle.asn_tool.specs.declared.status.Status.{Status}
use Rattle.asn_tool.specs.declared.status.Status.TheVariants.{Clean, Warned, Matching, TooDeep, NotUtf8, TooLong, ReadFault, WriteFault, Usage, OutOfMemory}
use Rattle.asn_tool.specs.Headline.{IsListing, MeansWhatIsRead, Prints, SaysAlone, SaysPlace, Decides}
use Rattle.asn_tool.specs.Lines.{depth_line}
use Rattle.asn_tool.specs.Run.{HasFailed, IsTaken, IsTooLong, IsNoUtf8, IsTooDeep, IsUnmatched, IsValidText, NoTrees, HasTrees, AreKnown, OfTaken, Course, Delivered, Ends}
use Rattle.asn_tool.specs.Status.{line}
use Rattle.asn_tool.specs.Words.{depth_of}

-- the status of what was to be written, or that of a write that failed
abbrev Came : Status → List ℕ → StreamState → StreamState → Status → Type 0
Came due text sink sink' s = ((s ≡ due) × (sink'.faults ≡ sink.faults) × Takes sink.bytes text sink'.bytes) ⊎ ((s ≡ WriteFault) × HasFailed sink sink')

came : (due s : Status) (text : List ℕ) (sink sink' : StreamState) → Delivered due text sink sink' s → Came due text sink sink' s
came due Clean text sink sink' d = inl d
came due Warned text sink sink' d = inl d
came due Matching text sink sink' d = inl d
came due TooDeep text sink sink' d = inl d
came due NotUtf8 text sink sink' d = inl d
came due TooLong text sink sink' d = inl d
came due ReadFault text sink sink' d = inl d
came due WriteFault text sink sink' d = inr (refl, d.0)
came due Usage text sink sink' d = inl d
came due OutOfMemory text sink sink' d = inl d

-- the linked answer of a text means what is read
means : (reading : List Module) (linked : Linked) (links : IsLinkedOf reading linked) → MeansWhatIsRead reading links.linking linked.definitions
means reading linked links = subst (MeansWhatIsRead reading links.linking) (sym links.definitions) links.meaning

-- ---- a text is judged in one way

-- what a text is, of the five that the order of the causes tells apart
data Kind : Type 0 where
  long : Kind
  other : Kind
  deep : Kind
  unmatched : Kind
  valid : Kind

module _ (depth : ℕ) (text : List ℕ) where
  abbrev Is : Kind → Type 0
  Is long = IsTooLong text
  Is other = IsNoUtf8 text
  Is deep = IsTooDeep depth text
  Is unmatched = IsUnmatched depth text
  Is valid = IsValidText depth text

  abbrev Short : Type 0
  Short = length text < limit

  abbrev One : Type 0
  One = (t : List ℕ) → ExactlyOne whole_rules t (rule 190) 0

  not_long : IsTooLong text → Short → ⊥
  not_long l s = absurd (omega (arith, l, s))

  deep_fails : IsDeeper whole_rules text depth → Fails whole_rules text depth → ⊥
  deep_fails d f = absurd (omega (arith, d fails f.0 f.1, f.2))

  deep_valid : IsDeeper whole_rules text depth → IsValid whole_rules text depth → ⊥
  deep_valid d v = absurd (omega (arith, d (ends v.0) v.1 v.2, v.3))

  fails_valid : One → Fails whole_rules text depth → IsValid whole_rules text depth → ⊥
  fails_valid one f v =
      let same : ◌≡◌ {A = Ending} fails (ends v.0) = ((one text).only fails (ends v.0) f.0 v.1 f.1 v.2).0 in
      absurd cc

  -- it is not of two kinds
  one_kind : One → (k k' : Kind) → Is k → Is k' → k ≡ k'
  one_kind one long long p q = refl
  one_kind one long other p q = absurd (not_long p q.short)
  one_kind one long deep p q = absurd (not_long p q.short)
  one_kind one long unmatched p q = absurd (not_long p q.short)
  one_kind one long valid p q = absurd (not_long p q.short)
  one_kind one other long p q = absurd (not_long q p.short)
  one_kind one other other p q = refl
  one_kind one other deep p q = absurd (p.other q.utf8)
  one_kind one other unmatched p q = absurd (p.other q.utf8)
  one_kind one other valid p q = absurd (p.other q.utf8)
  one_kind one deep long p q = absurd (not_long q p.short)
  one_kind one deep other p q = absurd (q.other p.utf8)
  one_kind one deep deep p q = refl
  one_kind one deep unmatched p q = absurd (deep_fails p.deeper q.fails)
  one_kind one deep valid p q = absurd (deep_valid p.deeper q.matches)
  one_kind one unmatched long p q = absurd (not_long q p.short)
  one_kind one unmatched other p q = absurd (q.other p.utf8)
  one_kind one unmatched deep p q = absurd (deep_fails q.deeper p.fails)
  one_kind one unmatched unmatched p q = refl
  one_kind one unmatched valid p q = absurd (fails_valid one p.fails q.matches)
  one_kind one valid long p q = absurd (not_long q p.short)
  one_kind one valid other p q = absurd (q.other p.utf8)
  one_kind one valid deep p q = absurd (deep_valid q.deeper p.matches)
  one_kind one valid unmatched p q = absurd (fails_valid one q.fails p.matches)
  one_kind one valid valid p q = refl

  abbrev StatusOf : Kind → Status → Type 0
  StatusOf long s = s ≡ TooLong
  StatusOf other s = s ≡ NotUtf8
  StatusOf deep s = s ≡ TooDeep
  StatusOf unmatched s = s ≡ Matching
  StatusOf valid s = IsListing s

  -- the status of a kind decides
  decided : One → (k : Kind) (s : Status) → Is k → StatusOf k s → Decides depth text s
  decided one k s p is =
      record {
        long = λ q. by long q;
        utf8 = λ q. by other q;
        deep = λ q. by deep q;
        unmatched = λ q. by unmatched q;
        valid = λ q. by valid q;
      }
    where
      by : (k' : Kind) → Is k' → StatusOf k' s
      by k' q = subst (λ x. StatusOf x s) (one_kind one k k' p q) is

module _ (words : List (String Global)) (source source' sink sink' : StreamState) (ended : Ended) (e : Ends words source source' sink sink' ended) where
  abbrev Goes : Status → Type 0
  Goes s = Course words source source' s ended.reading ended.linked e.out

  result : Came e.due e.out sink sink' ended.status
  result = came e.due ended.status e.out sink sink' e.delivered

  -- the course under the status that is answered, where that is none of a write
  went : (s : Status) → ended.status ≡ s → (s ≡ WriteFault → ⊥) → Goes s × Takes sink.bytes e.out sink'.bytes
  went s is no_write = go result
    where
      go : Came e.due e.out sink sink' ended.status → Goes s × Takes sink.bytes e.out sink'.bytes
      go (inl d) =
          let due : e.due ≡ s = sym d.0 ∙ is in
          (subst Goes due e.course, d.2)
      go (inr d) = absurd (no_write (sym is ∙ d.0))

  pub usage : ended.status ≡ Usage → depth_of words ≡ None
  usage is = (went Usage is (λ e. cc)).0.1

  unknown : AreKnown words → depth_of words ≡ None → ⊥
  unknown known none = let both : ◌≡◌ {A = Option ℕ} (Some known.0) None = sym known.1 ∙ none in absurd cc

  pub misused : depth_of words ≡ None → (ended.status ≡ Usage) ⊎ (ended.status ≡ WriteFault)
  misused none = go result
    where
      due : (s : Status) → Goes s → s ≡ Usage
      due Clean g = absurd (unknown (g.0, g.1) none)
      due Warned g = absurd (unknown (g.0, g.1) none)
      due Matching g = absurd (unknown (g.0, g.1) none)
      due TooDeep g = absurd (unknown (g.0, g.1) none)
      due NotUtf8 g = absurd (unknown (g.0, g.1) none)
      due TooLong g = absurd (unknown (g.0, g.1) none)
      due ReadFault g = absurd (unknown g.1 none)
      due WriteFault g = absurd g
      due Usage g = refl
      due OutOfMemory g = absurd (unknown g.1 none)

      go : Came e.due e.out sink sink' ended.status → (ended.status ≡ Usage) ⊎ (ended.status ≡ WriteFault)
      go (inl d) = inl (d.0 ∙ due e.due e.course)
      go (inr d) = inr d.0

  pub read_fault : ended.status ≡ ReadFault → AreKnown words × HasFailed source source'
  read_fault is = let g = (went ReadFault is (λ e. cc)).0 in (g.1, g.2)

  pub write_fault : ended.status ≡ WriteFault → HasFailed sink sink'
  write_fault is = go result
    where
      go : Came e.due e.out sink sink' ended.status → HasFailed sink sink'
      go (inr d) = d.1
      go (inl d) = absurd (subst Goes (sym d.0 ∙ is) e.course)

  -- a read failed under no other status
  pub read_failed : source.faults < source'.faults → (ended.status ≡ ReadFault) ⊎ (ended.status ≡ WriteFault)
  read_failed rose = go result
    where
      same : source'.faults ≡ source.faults → ⊥
      same is = absurd (omega (arith, rose, is))

      due : (s : Status) → Goes s → s ≡ ReadFault
      due Clean g = absurd (same g.2.1.no_fault)
      due Warned g = absurd (same g.2.1.no_fault)
      due Matching g = absurd (same g.2.1.no_fault)
      due TooDeep g = absurd (same g.2.1.no_fault)
      due NotUtf8 g = absurd (same g.2.1.no_fault)
      due TooLong g = absurd (same g.2.1.no_fault)
      due ReadFault g = refl
      due WriteFault g = absurd g
      due Usage g = absurd (same (ap (λ s. s.faults) g.2))
      due OutOfMemory g = absurd (same g.2)

      go : Came e.due e.out sink sink' ended.status → (ended.status ≡ ReadFault) ⊎ (ended.status ≡ WriteFault)
      go (inl d) = inl (d.0 ∙ due e.due e.course)
      go (inr d) = inr d.0

  -- a write failed under no other status
  pub write_failed : sink.faults < sink'.faults → ended.status ≡ WriteFault
  write_failed rose = go result
    where
      go : Came e.due e.out sink sink' ended.status → ended.status ≡ WriteFault
      go (inl d) = absurd (omega (arith, rose, d.1))
      go (inr d) = d.0

  pub too_long : ended.status ≡ TooLong → OfTaken words source source' (λ depth taken. IsTooLong taken)
  too_long is = let g = (went TooLong is (λ e. cc)).0 in (g.0, g.1, (g.2.0, g.2.1, g.2.2.1))

  pub not_utf8 : ended.status ≡ NotUtf8 → OfTaken words source source' (λ depth taken. IsNoUtf8 taken)
  not_utf8 is = let g = (went NotUtf8 is (λ e. cc)).0 in (g.0, g.1, (g.2.0, g.2.1, g.2.2.1))

  says : (out : List ℕ) → e.out ≡ out → Takes sink.bytes e.out sink'.bytes → NoTrees ended.reading ended.linked → SaysAlone out sink sink' ended
  says out is takes none = record { said = subst (λ x. Takes sink.bytes x sink'.bytes) is takes; no_trees = none }

  pub too_deep : ended.status ≡ TooDeep → OfTaken words source source' (λ depth taken. IsTooDeep depth taken × SaysAlone (depth_line depth) sink sink' ended)
  too_deep is =
      let w = went TooDeep is (λ e. cc) in
      let g = w.0 in
      let c = g.2.2 in
      (g.0, g.1, (g.2.0, g.2.1, (c.1, says (depth_line g.0) c.2 w.1 c.0)))

  pub matching : ended.status ≡ Matching → OfTaken words source source' (λ depth taken. SaysPlace depth taken sink sink' ended)
  matching is =
      let w = went Matching is (λ e. cc) in
      let g = w.0 in
      let c = g.2.2 in
      let t = c.2 in
      (g.0, g.1, (g.2.0, g.2.1, record { unmatched = c.1; error = t.0; due = t.1; alone = says _ t.2 w.1 c.0 }))

  prints : (s : Status) → ended.status ≡ s → (r : Option (List Module)) (l : Option Linked) → ended.reading ≡ r → ended.linked ≡ l → (depth : ℕ) (taken : List ℕ) → HasTrees depth taken s r l e.out → Takes sink.bytes e.out sink'.bytes → Prints depth taken sink sink' ended
  prints s is None l a b depth taken h t = absurd h
  prints s is (Some reading) None a b depth taken h t = absurd h
  prints s is (Some reading) (Some linked) a b depth taken h t =
      record {
        reading = reading;
        linked = linked;
        hands_out = (a, b);
        valid = h.valid;
        reads = h.reads;
        printed = subst (λ x. Takes sink.bytes x sink'.bytes) h.listed t;
        headers = h.links.modules;
        linking = h.links.linking;
        definitions = h.links.definitions;
        withheld = h.links.withheld;
        warned = h.links.warnings;
        faults = h.links.faults;
        means = means reading linked h.links;
        status = is ∙ h.status_is;
      }

  pub headline : IsListing ended.status → OfTaken words source source' (λ depth taken. Prints depth taken sink sink' ended)
  headline (inl is) =
      let g = went Clean is (λ e. cc) in
      (g.0.0, g.0.1, (g.0.2.0, g.0.2.1, prints Clean is ended.reading ended.linked refl refl g.0.0 g.0.2.0 g.0.2.2 g.1))
  headline (inr is) =
      let g = went Warned is (λ e. cc) in
      (g.0.0, g.0.1, (g.0.2.0, g.0.2.1, prints Warned is ended.reading ended.linked refl refl g.0.0 g.0.2.0 g.0.2.2 g.1))

  trees_valid : (depth : ℕ) (taken : List ℕ) (s : Status) (r : Option (List Module)) (l : Option Linked) → HasTrees depth taken s r l e.out → IsValidText depth taken
  trees_valid depth taken s None l h = absurd h
  trees_valid depth taken s (Some r) None h = absurd h
  trees_valid depth taken s (Some r) (Some l) h = h.valid

  abbrev Settled : ℕ → Type 0
  Settled depth = (ended.status ≡ OutOfMemory) ⊎ ((taken : List ℕ) × IsTaken source taken source' × Decides depth taken ended.status)

  pub complete : ((t : List ℕ) → ExactlyOne whole_rules t (rule 190) 0) → (depth : ℕ) → depth_of words ≡ Some depth → (HasFailed source source' → ⊥) → (HasFailed sink sink' → ⊥) → Settled depth
  complete one depth asked no_read no_write = go result
    where
      same : (d : ℕ) → depth_of words ≡ Some d → d ≡ depth
      same d is = let both : ◌≡◌ {A = Option ℕ} (Some d) (Some depth) = sym is ∙ asked in cc

      decides : (k : Kind) (d : ℕ) → depth_of words ≡ Some d → (taken : List ℕ) → IsTaken source taken source' → Is d taken k → StatusOf d taken k ended.status → Settled depth
      decides k d is taken is_taken p s = inr (taken, is_taken, subst (λ x. Decides x taken ended.status) (same d is) (decided d taken one k ended.status p s))

      by : (s : Status) → ended.status ≡ s → Goes s → Settled depth
      by Clean is g = decides valid g.0 g.1 g.2.0 g.2.1 (trees_valid g.0 g.2.0 Clean ended.reading ended.linked g.2.2) (inl is)
      by Warned is g = decides valid g.0 g.1 g.2.0 g.2.1 (trees_valid g.0 g.2.0 Warned ended.reading ended.linked g.2.2) (inr is)
      by Matching is g = decides unmatched g.0 g.1 g.2.0 g.2.1 g.2.2.1 is
      by TooDeep is g = decides deep g.0 g.1 g.2.0 g.2.1 g.2.2.1 is
      by NotUtf8 is g = decides other g.0 g.1 g.2.0 g.2.1 g.2.2.1 is
      by TooLong is g = decides long g.0 g.1 g.2.0 g.2.1 g.2.2.1 is
      by ReadFault is g = absurd (no_read g.2)
      by WriteFault is g = absurd g
      by Usage is g = absurd (unknown (depth, asked) g.1)
      by OutOfMemory is g = inl is

      go : Came e.due e.out sink sink' ended.status → Settled depth
      go (inl d) = by e.due d.0 e.course
      go (inr d) = absurd (no_write d.1)

  pub one_line : (s : Status) → ended.status ≡ s → IfSome (line s) (λ text. SaysAlone text sink sink' ended)
  one_line Clean is = tt
  one_line Warned is = tt
  one_line Matching is = tt
  one_line TooDeep is = tt
  one_line NotUtf8 is = let g = went NotUtf8 is (λ e. cc) in let c = g.0.2.2 in says _ c.2 g.1 c.0
  one_line TooLong is = let g = went TooLong is (λ e. cc) in let c = g.0.2.2 in says _ c.2 g.1 c.0
  one_line ReadFault is = let g = went ReadFault is (λ e. cc) in says _ g.0.4 g.1 g.0.0
  one_line WriteFault is = tt
  one_line Usage is = let g = went Usage is (λ e. cc) in says _ g.0.3 g.1 g.0.0
  one_line OutOfMemory is = let g = went OutOfMemory is (λ e. cc) in says _ g.0.4 g.1 g.0.0
