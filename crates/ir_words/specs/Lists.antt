-- The words of the language, those that are dropped, and those that are outside it, written out.
use Rattle.std.specs.Prelude.{ℕ, List, [], ◌∷◌, codes}
use Rattle.ir_words.specs.declared.words.Keyword.{Keyword}
use Rattle.ir_words.specs.declared.words.Keyword.TheVariants.{HeaderLine, Declare, Call, Align, Comdat, Group, Tail, Quiet, Integer, «Type», Global, Constant, Define, X, Void, Ptr, Phi, Add, Sub, Mul, Shl, Udiv, Sdiv, Lshr, Ashr, Urem, Srem, And, Or, Xor, Nuw, Nsw, Exact, InBounds, Icmp, Select, Zext, Sext, Trunc, To, Freeze, Alloca, Load, Store, GetElementPtr, Br, Label, Switch, Ret, Unreachable, Eq, Ne, Ugt, Uge, Ult, Ule, Sgt, Sge, Slt, Sle, True, False, Null, Undef, Poison, ZeroInitializer, Outside, Other}

-- the word that stands for a keyword, of an integer type what stands before its width; none where many words stand for it, or where it is not of the language
abbrev pub keyword_head : Keyword → List ℕ
keyword_head (Integer width) = codes "i"
keyword_head Declare = codes "declare"
keyword_head Call = codes "call"
keyword_head «Type» = codes "type"
keyword_head Global = codes "global"
keyword_head Constant = codes "constant"
keyword_head Define = codes "define"
keyword_head X = codes "x"
keyword_head Void = codes "void"
keyword_head Ptr = codes "ptr"
keyword_head Phi = codes "phi"
keyword_head Add = codes "add"
keyword_head Sub = codes "sub"
keyword_head Mul = codes "mul"
keyword_head Shl = codes "shl"
keyword_head Udiv = codes "udiv"
keyword_head Sdiv = codes "sdiv"
keyword_head Lshr = codes "lshr"
keyword_head Ashr = codes "ashr"
keyword_head Urem = codes "urem"
keyword_head Srem = codes "srem"
keyword_head And = codes "and"
keyword_head Or = codes "or"
keyword_head Xor = codes "xor"
keyword_head Nuw = codes "nuw"
keyword_head Nsw = codes "nsw"
keyword_head Exact = codes "exact"
keyword_head InBounds = codes "inbounds"
keyword_head Icmp = codes "icmp"
keyword_head Select = codes "select"
keyword_head Zext = codes "zext"
keyword_head Sext = codes "sext"
keyword_head Trunc = codes "trunc"
keyword_head To = codes "to"
keyword_head Freeze = codes "freeze"
keyword_head Alloca = codes "alloca"
keyword_head Load = codes "load"
keyword_head Store = codes "store"
keyword_head GetElementPtr = codes "getelementptr"
keyword_head Br = codes "br"
keyword_head Label = codes "label"
keyword_head Switch = codes "switch"
keyword_head Ret = codes "ret"
keyword_head Unreachable = codes "unreachable"
keyword_head Eq = codes "eq"
keyword_head Ne = codes "ne"
keyword_head Ugt = codes "ugt"
keyword_head Uge = codes "uge"
keyword_head Ult = codes "ult"
keyword_head Ule = codes "ule"
keyword_head Sgt = codes "sgt"
keyword_head Sge = codes "sge"
keyword_head Slt = codes "slt"
keyword_head Sle = codes "sle"
keyword_head True = codes "true"
keyword_head False = codes "false"
keyword_head Null = codes "null"
keyword_head Undef = codes "undef"
keyword_head Poison = codes "poison"
keyword_head ZeroInitializer = codes "zeroinitializer"
keyword_head HeaderLine = []
keyword_head Align = []
keyword_head Comdat = []
keyword_head Group = []
keyword_head Tail = []
keyword_head Quiet = []
keyword_head Outside = []
keyword_head Other = []

-- the keywords that have a word of their own
unfoldable pub language_keywords : List Keyword
language_keywords =
    Declare ∷ Call ∷ «Type» ∷ Global ∷ Constant ∷ Define ∷ X ∷ Void ∷
    Ptr ∷ Phi ∷ Add ∷ Sub ∷ Mul ∷ Shl ∷ Udiv ∷ Sdiv ∷
    Lshr ∷ Ashr ∷ Urem ∷ Srem ∷ And ∷ Or ∷ Xor ∷ Nuw ∷
    Nsw ∷ Exact ∷ InBounds ∷ Icmp ∷ Select ∷ Zext ∷ Sext ∷ Trunc ∷
    To ∷ Freeze ∷ Alloca ∷ Load ∷ Store ∷ GetElementPtr ∷ Br ∷ Label ∷
    Switch ∷ Ret ∷ Unreachable ∷ Eq ∷ Ne ∷ Ugt ∷ Uge ∷ Ult ∷
    Ule ∷ Sgt ∷ Sge ∷ Slt ∷ Sle ∷ True ∷ False ∷ Null ∷
    Undef ∷ Poison ∷ ZeroInitializer ∷
    []

-- the words that are dropped, alone or with what stands beside them
unfoldable pub dropped_words : List (List ℕ × Keyword)
dropped_words =
    (codes "source_filename", HeaderLine) ∷
    (codes "target", HeaderLine) ∷
    (codes "attributes", HeaderLine) ∷
    (codes "uselistorder", HeaderLine) ∷
    (codes "align", Align) ∷
    (codes "dereferenceable", Group) ∷
    (codes "dereferenceable_or_null", Group) ∷
    (codes "captures", Group) ∷
    (codes "range", Group) ∷
    (codes "memory", Group) ∷
    (codes "initializes", Group) ∷
    (codes "allocsize", Group) ∷
    (codes "sret", Group) ∷
    (codes "elementtype", Group) ∷
    (codes "comdat", Comdat) ∷
    (codes "uwtable", Group) ∷
    (codes "allockind", Group) ∷
    (codes "vscale_range", Group) ∷
    (codes "nofpclass", Group) ∷
    (codes "dso_local", Quiet) ∷
    (codes "dso_preemptable", Quiet) ∷
    (codes "private", Quiet) ∷
    (codes "internal", Quiet) ∷
    (codes "linkonce", Quiet) ∷
    (codes "linkonce_odr", Quiet) ∷
    (codes "weak", Quiet) ∷
    (codes "weak_odr", Quiet) ∷
    (codes "common", Quiet) ∷
    (codes "hidden", Quiet) ∷
    (codes "protected", Quiet) ∷
    (codes "default", Quiet) ∷
    (codes "unnamed_addr", Quiet) ∷
    (codes "local_unnamed_addr", Quiet) ∷
    (codes "fastcc", Quiet) ∷
    (codes "ccc", Quiet) ∷
    (codes "coldcc", Quiet) ∷
    (codes "tail", Tail) ∷
    (codes "notail", Tail) ∷
    (codes "musttail", Tail) ∷
    (codes "signext", Quiet) ∷
    (codes "zeroext", Quiet) ∷
    (codes "inreg", Quiet) ∷
    (codes "noalias", Quiet) ∷
    (codes "nocapture", Quiet) ∷
    (codes "nonnull", Quiet) ∷
    (codes "noundef", Quiet) ∷
    (codes "returned", Quiet) ∷
    (codes "readonly", Quiet) ∷
    (codes "readnone", Quiet) ∷
    (codes "writeonly", Quiet) ∷
    (codes "nofree", Quiet) ∷
    (codes "immarg", Quiet) ∷
    (codes "nounwind", Quiet) ∷
    (codes "willreturn", Quiet) ∷
    (codes "mustprogress", Quiet) ∷
    (codes "nosync", Quiet) ∷
    (codes "norecurse", Quiet) ∷
    (codes "noreturn", Quiet) ∷
    (codes "noinline", Quiet) ∷
    (codes "alwaysinline", Quiet) ∷
    (codes "optnone", Quiet) ∷
    (codes "optsize", Quiet) ∷
    (codes "minsize", Quiet) ∷
    (codes "cold", Quiet) ∷
    (codes "hot", Quiet) ∷
    (codes "speculatable", Quiet) ∷
    (codes "ssp", Quiet) ∷
    (codes "sspstrong", Quiet) ∷
    (codes "sspreq", Quiet) ∷
    (codes "builtin", Quiet) ∷
    (codes "nobuiltin", Quiet) ∷
    (codes "allocptr", Quiet) ∷
    (codes "dead_on_unwind", Quiet) ∷
    (codes "writable", Quiet) ∷
    (codes "volatile", Quiet) ∷
    (codes "nneg", Quiet) ∷
    (codes "disjoint", Quiet) ∷
    (codes "samesign", Quiet) ∷
    (codes "nusw", Quiet) ∷
    []

-- the words that are outside the language
unfoldable pub outside_words : List (List ℕ)
outside_words =
    codes "half" ∷ codes "bfloat" ∷ codes "float" ∷ codes "double" ∷
    codes "fp128" ∷ codes "x86_fp80" ∷ codes "ppc_fp128" ∷ codes "x86_mmx" ∷
    codes "x86_amx" ∷ codes "token" ∷ codes "opaque" ∷ codes "fneg" ∷
    codes "fadd" ∷ codes "fsub" ∷ codes "fmul" ∷ codes "fdiv" ∷
    codes "frem" ∷ codes "fcmp" ∷ codes "fptrunc" ∷ codes "fpext" ∷
    codes "fptoui" ∷ codes "fptosi" ∷ codes "uitofp" ∷ codes "sitofp" ∷
    codes "ptrtoint" ∷ codes "inttoptr" ∷ codes "bitcast" ∷ codes "addrspacecast" ∷
    codes "addrspace" ∷ codes "extractelement" ∷ codes "insertelement" ∷ codes "shufflevector" ∷
    codes "extractvalue" ∷ codes "insertvalue" ∷ codes "atomic" ∷ codes "atomicrmw" ∷
    codes "cmpxchg" ∷ codes "fence" ∷ codes "invoke" ∷ codes "resume" ∷
    codes "landingpad" ∷ codes "catchswitch" ∷ codes "catchret" ∷ codes "catchpad" ∷
    codes "cleanupret" ∷ codes "cleanuppad" ∷ codes "callbr" ∷ codes "indirectbr" ∷
    codes "blockaddress" ∷ codes "va_arg" ∷ codes "asm" ∷ codes "byval" ∷
    codes "inalloca" ∷ codes "preallocated" ∷ codes "external" ∷ codes "extern_weak" ∷
    codes "thread_local" ∷ codes "alias" ∷ codes "ifunc" ∷ codes "metadata" ∷
    codes "personality" ∷ codes "gc" ∷ codes "swiftself" ∷ codes "swifterror" ∷
    codes "vscale" ∷ codes "..." ∷
    []
